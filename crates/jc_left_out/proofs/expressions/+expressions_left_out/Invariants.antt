use Rattle.std.proofs.Common.{◌≡◌, drop}
use Rattle.jc_left_out.specs.LeftOut.{earlier, in_each, least_of, left_out_of_expr, left_out_of_init, left_out_of_operand}
use Rattle.jc_left_out.proofs.expressions.+expressions_left_out.Given as goal

abbrev pub invariant-in_exprs-loop-node : goal.invariant-in_exprs-loop-node
invariant-in_exprs-loop-node l = earlier l.first (least_of (in_each left_out_of_expr (drop l.node-index l.nodes))) ≡ least_of (in_each left_out_of_expr l.nodes)

abbrev pub invariant-in_operands-loop-node : goal.invariant-in_operands-loop-node
invariant-in_operands-loop-node l = earlier l.first (least_of (in_each left_out_of_operand (drop l.node-index l.nodes))) ≡ least_of (in_each left_out_of_operand l.nodes)

abbrev pub invariant-in_inits-loop-node : goal.invariant-in_inits-loop-node
invariant-in_inits-loop-node l = earlier l.first (least_of (in_each left_out_of_init (drop l.node-index l.nodes))) ≡ least_of (in_each left_out_of_init l.nodes)
