use Rattle.jc_left_out.specs.LeftOut.{left_out_of_expr, left_out_of_init, left_out_of_operand}
use Rattle.jc_left_out.proofs.LeastOfBoth.{least_turn}
use Rattle.jc_left_out.proofs.expressions.+expressions_left_out.Goals as goal

pub in_exprs-loop-node-preserved : goal.in_exprs-loop-node-preserved
in_exprs-loop-node-preserved t c = least_turn left_out_of_expr c.args.nodes.now c.loop-node.node-index c.node-item.result c.loop-node.first _ c.earlier-first.result c.loop-node-test.true c.node-item.is c.in_expr.ensures c.earlier-first.ensures c.loop-node.invariant

pub in_inits-loop-node-preserved : goal.in_inits-loop-node-preserved
in_inits-loop-node-preserved t c = least_turn left_out_of_init c.args.nodes.now c.loop-node.node-index c.node-item.result c.loop-node.first _ c.earlier-first.result c.loop-node-test.true c.node-item.is c.in_init.ensures c.earlier-first.ensures c.loop-node.invariant

pub in_operands-loop-node-preserved : goal.in_operands-loop-node-preserved
in_operands-loop-node-preserved t c = least_turn left_out_of_operand c.args.nodes.now c.loop-node.node-index c.node-item.result c.loop-node.first _ c.earlier-first.result c.loop-node-test.true c.node-item.is c.in_operand.ensures c.earlier-first.ensures c.loop-node.invariant
