use Rattle.std.proofs.Common.{◌≡◌, ◌<◌, length, map}
use Rattle.jc_typed.specs.Parts.{Grows, operand_of, operands_of}
use Rattle.jc_typed.specs.Trees.{NoOperands}
use Rattle.jc_exprs_nodes_spec.specs.Typeds.{operands_of as in_order}
use Rattle.jc_exprs_nodes.specs.Walks.{AllBelow}
use Rattle.jc_exprs_nodes.proofs.lists.push_operand_list.Given as goal

abbrev pub invariant-loop-rest : goal.invariant-loop-rest
invariant-loop-rest l =
    (in_order (map (operand_of l.fn.nodes) l.rest) (operands_of l.nodes l.list) ≡ in_order (map (operand_of l.fn.nodes) l.fn.ats) NoOperands)
    × (l.list < length l.nodes)
    × AllBelow (length l.fn.nodes) l.rest
    × Grows l.fn.nodes l.nodes

abbrev pub decreases-loop-rest : goal.decreases-loop-rest
decreases-loop-rest l = length l.rest
