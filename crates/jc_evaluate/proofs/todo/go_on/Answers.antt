use Rattle.std.proofs.Common.{Ok, Err}
use Rattle.jc_pending.specs.Frames.{left_to_do}
use Rattle.jc_pending.specs.Leads.{given_on}
use Rattle.jc_evaluate.proofs.Onward.{given_is, leads_on}
use Rattle.jc_evaluate.proofs.todo.go_on.Goals as goal

pub returns-in-Ok : goal.returns-in-Ok
returns-in-Ok c = λ k coherent w h. leads_on c.args.program.now c.args.nodes.now c.args.depth k c.take.result c.take.new.run (given_on (left_to_do c.args.program.now c.args.nodes.now c.args.depth c.args.todo k) c.in-Ok.given c.args.run.now) w
    (given_is (left_to_do c.args.program.now c.args.nodes.now c.args.depth c.args.todo k) c.args.now (Ok c.in-Ok.given) c.args.run.now w c.in-Ok.is h) (c.take.ensures k coherent)

pub returns-in-Err : goal.returns-in-Err
returns-in-Err c = λ k coherent w h. c.halted.ensures k coherent w (given_is (left_to_do c.args.program.now c.args.nodes.now c.args.depth c.args.todo k) c.args.now (Err c.in-Err.halt) c.args.run.now w c.in-Err.is h)
