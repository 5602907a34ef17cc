use Rattle.jc_running.specs.Outcomes.{stop}
use Rattle.jc_values.specs.Idle.{idle}
use Rattle.jc_completing.proofs.acting.after_element.Goals as goal

pub returns : goal.returns
returns c = λ o u. c.numbered.ensures c.args.program.now idle (λ x. stop) 0 o u
