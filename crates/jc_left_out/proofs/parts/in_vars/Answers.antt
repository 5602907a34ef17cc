use Rattle.jc_left_out.specs.LeftOut.{left_out_of_var}
use Rattle.jc_left_out.proofs.LeastOfBoth.{least_turn}
use Rattle.jc_left_out.proofs.parts.in_vars.Goals as goal

pub loop-node-preserved : goal.loop-node-preserved
loop-node-preserved c = least_turn left_out_of_var c.args.nodes.now c.loop-node.node-index c.node-item.result c.loop-node.first _ c.earlier-first.result c.loop-node-test.true c.node-item.is c.in_some_init.ensures c.earlier-first.ensures c.loop-node.invariant
