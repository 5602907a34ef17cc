use Rattle.jc_left_out.specs.LeftOut.{left_out_of_modifier}
use Rattle.jc_left_out.proofs.LeastOfBoth.{least_turn}
use Rattle.jc_left_out.proofs.parts.in_modifiers.Goals as goal

pub loop-node-preserved : goal.loop-node-preserved
loop-node-preserved c = least_turn left_out_of_modifier c.args.nodes.now c.loop-node.node-index c.node-item.result c.loop-node.first _ c.earlier-first.result c.loop-node-test.true c.node-item.is c.in_modifier.ensures c.earlier-first.ensures c.loop-node.invariant
