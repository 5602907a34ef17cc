use Rattle.std.proofs.Common.{Err, sym}
use Rattle.jc_running.specs.Outcomes.{Thrown}
use Rattle.jc_pending.specs.Frames.{left_to_do}
use Rattle.jc_values.specs.declared.halt.Halt.TheVariants as halt
use Rattle.jc_evaluate.proofs.Onward.{halt_is, halt_passes, leads_on, step_is}
use Rattle.jc_evaluate.proofs.todo.halted.Goals as goal

pub returns-in-Thrown : goal.returns-in-Thrown
returns-in-Thrown c = λ k coherent w h. leads_on c.args.program.now c.args.nodes.now c.args.depth k c.thrown.result c.thrown.new.run ((left_to_do c.args.program.now c.args.nodes.now c.args.depth c.args.todo k).value (Thrown c.in-Thrown.address c.args.run.now.units c.args.run.now.state)) w
    (halt_is (left_to_do c.args.program.now c.args.nodes.now c.args.depth c.args.todo k) c.args.halt (halt.Thrown c.in-Thrown.address) c.args.run.now w c.in-Thrown.is h) (c.thrown.ensures k coherent)

pub returns-in-Exited : goal.returns-in-Exited
returns-in-Exited c = λ k coherent w h. step_is c.args.program.now c.args.nodes.now c.args.depth k (Err (halt.Exited c.in-Exited._code)) c.passed.result c.args.run.now w (sym c.passed.ensures)
    (halt_passes c.args.program.now c.args.nodes.now c.args.depth k coherent c.args.todo (halt.Exited c.in-Exited._code) c.args.run.now w (λ a e. cc e)
    (halt_is (left_to_do c.args.program.now c.args.nodes.now c.args.depth c.args.todo k) c.args.halt (halt.Exited c.in-Exited._code) c.args.run.now w c.in-Exited.is h))

pub returns-in-Going : goal.returns-in-Going
returns-in-Going c = λ k coherent w h. step_is c.args.program.now c.args.nodes.now c.args.depth k (Err c.args.halt) c.passed-in-Going.result c.args.run.now w (sym c.passed-in-Going.ensures)
    (halt_passes c.args.program.now c.args.nodes.now c.args.depth k coherent c.args.todo c.args.halt c.args.run.now w (λ a e. cc (e, c.in-Going.is)) h)

pub returns-in-Wrong : goal.returns-in-Wrong
returns-in-Wrong c = λ k coherent w h. step_is c.args.program.now c.args.nodes.now c.args.depth k (Err c.args.halt) c.passed-in-Wrong.result c.args.run.now w (sym c.passed-in-Wrong.ensures)
    (halt_passes c.args.program.now c.args.nodes.now c.args.depth k coherent c.args.todo c.args.halt c.args.run.now w (λ a e. cc (e, c.in-Wrong.is)) h)

pub returns-in-WantOfMemory : goal.returns-in-WantOfMemory
returns-in-WantOfMemory c = λ k coherent w h. step_is c.args.program.now c.args.nodes.now c.args.depth k (Err c.args.halt) c.passed-in-WantOfMemory.result c.args.run.now w (sym c.passed-in-WantOfMemory.ensures)
    (halt_passes c.args.program.now c.args.nodes.now c.args.depth k coherent c.args.todo c.args.halt c.args.run.now w (λ a e. cc (e, c.in-WantOfMemory.is)) h)
