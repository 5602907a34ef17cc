use Rattle.jc_left_out.specs.LeftOut.{left_out_of_value}
use Rattle.jc_left_out.proofs.LeastOfBoth.{least_turn}
use Rattle.jc_left_out.proofs.parts.+values_left_out.Goals as goal

pub in_values-loop-node-preserved : goal.in_values-loop-node-preserved
in_values-loop-node-preserved t c = least_turn left_out_of_value c.args.nodes.now c.loop-node.node-index c.node-item.result c.loop-node.first _ c.earlier-first.result c.loop-node-test.true c.node-item.is c.in_value.ensures c.earlier-first.ensures c.loop-node.invariant
