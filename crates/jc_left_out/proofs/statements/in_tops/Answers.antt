use Rattle.jc_left_out.specs.LeftOut.{left_out_of_top}
use Rattle.jc_left_out.proofs.LeastOfBoth.{least_turn}
use Rattle.jc_left_out.proofs.statements.in_tops.Goals as goal

pub loop-node-preserved : goal.loop-node-preserved
loop-node-preserved c = least_turn left_out_of_top c.args.nodes.now c.loop-node.node-index c.node-item.result c.loop-node.first _ c.earlier-first.result c.loop-node-test.true c.node-item.is c.in_top.ensures c.earlier-first.ensures c.loop-node.invariant
