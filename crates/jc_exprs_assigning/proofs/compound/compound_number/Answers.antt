use Rattle.std.proofs.Common.{◌≡◌, Some, sym, ◌∙◌, subst}
use Rattle.std.specs.Prelude.{IfOk}
use Rattle.jc_typed.specs.Parts.{type_of}
use Rattle.jc_exprs_nodes_spec.specs.Told.{Ran}
use Rattle.jc_exprs_nodes_spec.specs.Typeds.{Typed, type_of as counted_type}
use Rattle.jc_exprs_nodes.specs.Walks.{has, known, now}
use Rattle.jc_exprs_parts_spec.specs.Assigning.{exact_primitive}
use Rattle.jc_exprs_operators.specs.Takings.{takes_in}
use Rattle.jc_exprs_targets.specs.Targets.{target_of}
use Rattle.jc_exprs_assigning.proofs.Compounds.{number_by}
use Rattle.jc_exprs_assigning.proofs.compound.compound_number.Goals as goal

pub returns-in_ok-converts-in-Some-clause-value : goal.returns-in_ok-converts-in-Some-clause-value
returns-in_ok-converts-in-Some-clause-value c =
    let T = c.args.table.now in
    let ns = c.args.walk.now.nodes in
    let at = c.args.at in
    let t = type_of ns at.target.ty in
    let r = known ns at.value.at in
    let e : exact_primitive T t ≡ Some c.in-Some.field-0 = rw c.ty.ensures (c.exact_primitive.ensures ∙ c.in-Some.is) in
    let z = number_by T c.args.walk.now.env.bounds (target_of ns at.target) (takes_in T t (counted_type r) at.taking) r (now c.args.walk.now) (exact_primitive T t) c.in-Some.field-0 c.in_ok-converts-in-Some.converts e c.in_ok-converts-in-Some.ensures in
    subst (λ (x : Ran Typed). IfOk c.compound_into.result (λ q. x.has ≡ has c.compound_into.new.walk.nodes q)) (sym z) c.compound_into.ensures.value
