use Rattle.std.proofs.Common.{ap, sym, ◌∙◌, [], ◌∷◌}
use Rattle.jc_rules.specs.declared.rule.Refusal.{Refusal}
use Rattle.jc_exprs_worlds.specs.Scenes.{world_of}
use Rattle.jc_exprs_names.proofs.Owning.{object_breaks, outer_breaks, static_breaks}
use Rattle.jc_exprs_names.proofs.fields.own_break.Goals as goal

pub returns-then-is_static_field : goal.returns-then-is_static_field
unfolding world_of
returns-then-is_static_field c =
    sym (static_breaks (world_of c.args.scene.now) c.args.place c.args.field c.args.is_own (sym c.is_static_field.ensures ∙ c.if-is_static_field.true))

pub returns-then-is_own : goal.returns-then-is_own
unfolding world_of
returns-then-is_own c =
    c.instance_break.ensures
    ∙ sym (object_breaks (world_of c.args.scene.now) c.args.place c.args.field c.args.is_own (sym c.is_static_field.ensures ∙ c.if-is_static_field.false) c.if-is_own.true)

pub returns : goal.returns
unfolding world_of
returns c =
    ap (λ (b : Refusal). b ∷ []) c.refusal.ensures
    ∙ sym (outer_breaks (world_of c.args.scene.now) c.args.place c.args.field c.args.is_own (sym c.is_static_field.ensures ∙ c.if-is_static_field.false) c.if-is_own.false)
