use Rattle.std.proofs.Common.{◌≡◌, sym, ◌∙◌, subst}
use Rattle.std.specs.Prelude.{IfOk}
use Rattle.jc_typed.specs.Parts.{type_of}
use Rattle.jc_exprs_nodes_spec.specs.Told.{Ran}
use Rattle.jc_exprs_nodes_spec.specs.Typeds.{Typed, type_of as counted_type}
use Rattle.jc_exprs_nodes.specs.Walks.{has, known, now}
use Rattle.jc_exprs_operators.specs.Takings.{joint_of, takes_in}
use Rattle.jc_exprs_targets.specs.Targets.{target_of}
use Rattle.jc_exprs_assigning.proofs.Compounds.{text_by}
use Rattle.jc_exprs_assigning.proofs.compound.compound_taken.Goals as goal

pub returns-in-Concat-clause-value : goal.returns-in-Concat-clause-value
returns-in-Concat-clause-value c =
    let T = c.args.table.now in
    let ns = c.args.walk.now.nodes in
    let at = c.args.at in
    let r = known ns at.value.at in
    let z = text_by T c.args.walk.now.env.bounds (target_of ns at.target) (takes_in T (type_of ns at.target.ty) (counted_type r) at.taking) r (now c.args.walk.now) (joint_of at.taking) c.in-Concat.left c.in-Concat.right (c.joint_of.ensures ∙ c.in-Concat.is) in
    subst (λ (x : Ran Typed). IfOk c.compound_text.result (λ q. x.has ≡ has c.compound_text.new.walk.nodes q)) (sym z) c.compound_text.ensures.value
