use Rattle.std.proofs.Common.{◌≡◌, suc, ◌-◌, ap, ◌∙◌, arith, subst}
use Rattle.jc_tree.specs.declared.expression.PrefixOp.{PrefixOp}
use Rattle.jc_typed.proofs.Growing.{grows_both}
use Rattle.jc_exprs_nodes_spec.specs.Told.{Ran}
use Rattle.jc_exprs_nodes.specs.Walks.{now}
use Rattle.jc_exprs_parts_spec.specs.Chains.{Signed}
use Rattle.jc_exprs_parts_spec.specs.Worlds.{at}
use Rattle.jc_exprs_worlds.specs.Scenes.{world_of}
use Rattle.jc_exprs_chains.specs.Chaining.{has_signed}
use Rattle.jc_exprs_forms.specs.Walking.{signed_by}
use Rattle.jc_exprs.specs.Signing.{signed_walk}
use Rattle.jc_exprs.proofs.Turns.{signed_turn}
use Rattle.jc_exprs.proofs.signs.signed_all.Goals as goal

pub loop-i-preserved : goal.loop-i-preserved
loop-i-preserved c =
    let W = world_of c.args.scene.now in
    let r : Ran Signed = record { state = now c.loop-i.walk; has = has_signed c.loop-i.walk.nodes c.loop-i.signs } in
    let i = c.loop-i.invariant in
    let e : suc (c.loop-i.i - 1) ≡ c.loop-i.i = omega arith in
    let t = now c.signed_before.new.walk in
    let x = has_signed c.signed_before.new.walk.nodes c.in_ok-signs.signs in (
      signed_turn W c.args.first c.args.more.now (c.loop-i.i - 1) r t x _ (subst (λ (o : PrefixOp). (signed_by W (at W o.at) o.sign r).state ≡ t) c.operator_at.ensures c.in_ok-signs.ensures.state)
          (subst (λ (o : PrefixOp). (signed_by W (at W o.at) o.sign r).has ≡ x) c.operator_at.ensures c.in_ok-signs.ensures.value) (ap (λ k. signed_walk W c.args.first c.args.more.now k r) e ∙ i.0),
      c.in_ok-signs.ensures.signed,
      grows_both c.args.walk.now.nodes c.loop-i.walk.nodes c.signed_before.new.walk.nodes i.2 c.in_ok-signs.ensures.grows,
    )
