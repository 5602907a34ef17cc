use Rattle.jc_pending.specs.Frames.{all_to_do, at_the_end}
use Rattle.jc_evaluate.proofs.Onward.{over_nodes, stack_coherent}
use Rattle.jc_evaluate.proofs.turning.turn.Goals as goal

pub returns : goal.returns
returns c = λ w h. c.settle.ensures c.args.program.now c.go_on-next.new.run w
    (over_nodes c.args.program.now _ c.args.entry.level c.args.entry.todo (all_to_do c.args.program.now at_the_end c.args.stack.now) c.args.now c.args.run.now c.go_on-next.result c.go_on-next.new.run w
    (stack_coherent c.args.program.now c.args.stack.now) c.nodes_of-nodes.ensures c.go_on-next.ensures h)
