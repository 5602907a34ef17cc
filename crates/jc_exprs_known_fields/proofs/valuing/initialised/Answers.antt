use Rattle.std.proofs.Common.{◌≡◌, IfOk, Option, subst}
use Rattle.jc_types.specs.declared.constant.Constant.{Constant}
use Rattle.jc_exprs_parts_spec.specs.Constants.{assigned_constant, constant_named, field_world, from_some, valued}
use Rattle.jc_exprs_worlds.specs.Scenes.{world_of}
use Rattle.jc_exprs_known_fields.specs.Programs.{heads_in, knowledge_in}
use Rattle.jc_exprs_known_fields.proofs.valuing.initialised.Goals as goal

pub returns : goal.returns
unfolding world_of
returns c =
    let p = c.args.program.now in
    let told : c.in_ok-value.value ≡ valued (constant_named (field_world p.table.now (heads_in p) (knowledge_in p) c.args.constants.now c.args.field.now.class c.args.scope.0)) c.args.expr.now =
    rw c.new-locals.ensures at c.in_ok-value.ensures in
    subst (λ (x : Option Constant). IfOk c.assigned.result (λ r. r ≡ from_some x (assigned_constant p.table.now c.args.field.now.ty.ty))) told c.assigned.ensures
