use Rattle.jc_running.specs.Outcomes.{stop}
use Rattle.jc_values.specs.Idle.{idle}
use Rattle.jc_calling.proofs.acting.set_declared.Goals as goal

pub returns : goal.returns
returns c = c.set_first.ensures c.args.program.now idle (λ x. stop) 0
