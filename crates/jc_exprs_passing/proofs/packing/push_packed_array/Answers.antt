use Rattle.std.proofs.Common.{◌≡◌, ap, ◌∙◌, map, subst}
use Rattle.std.specs.Prelude.{IfOk}
use Rattle.jc_typed.specs.Parts.{as_operands, operand_of, operands_of, steps_of}
use Rattle.jc_typed.specs.Trees.{ArrayOf, operand}
use Rattle.jc_typed.proofs.Growing.{grows_both}
use Rattle.jc_exprs_nodes_spec.specs.Typeds.{node, tree}
use Rattle.jc_exprs_nodes.specs.Walks.{known}
use Rattle.jc_exprs_gathering.proofs.Gathering.{all_known_stay}
use Rattle.jc_exprs_spec.specs.Calls.{erasures_of, guards_of, packed_array}
use Rattle.jc_exprs_passing.proofs.packing.push_packed_array.Goals as goal

pub returns-clause-value : goal.returns-clause-value
returns-clause-value c =
    let T = c.args.judging.now.table.now in
    let env = c.args.judging.now.env.now.bounds in
    let p = c.args.param.now in
    let n0 = c.args.nodes.now in
    let n1 = c.push_operands.new.self in
    let n2 = c.push_elements.new.nodes in
    let n3 = c.push_up_to_param.new.nodes in
    let n4 = c.push_guards.new.nodes in
    let g = grows_both n2 n3 n4 c.in_ok-steps.ensures.grows c.in_ok-steps-2.ensures.grows in
    let z = c.in_ok-none.ensures.value in
    let k = all_known_stay n0 n1 c.args.args.now c.in_ok-none.ensures.grows c.requires in
    let o = c.in_ok-of.ensures in
    let e = ap as_operands (g.kept c.in_ok-elements.elements c.in_ok-elements.ensures.within) ∙ c.in_ok-elements.ensures.value in
    let y = c.in_ok-ty.ensures in
    let u = c.in_ok-steps.ensures.value in
    let s = c.in_ok-steps-2.ensures.value in
    let all : operand c.args.place (tree (node c.args.place c.in_ok-ty.ty (ArrayOf (operands_of n4 c.in_ok-elements.elements)))) (steps_of n4 c.in_ok-steps-2.steps)
    ≡ packed_array T env c.args.place (map (known n0) c.args.args.now) p (guards_of T env p (erasures_of T c.args.declared.now)) = cc in
    subst (λ q. IfOk c.push_array.result (λ at. operand_of c.push_array.new.nodes at ≡ q)) all c.push_array.ensures.value
