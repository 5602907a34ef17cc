use Rattle.jc_running.specs.Outcomes.{stop}
use Rattle.jc_values.specs.Idle.{idle}
use Rattle.jc_completing.proofs.acting.first_of.Goals as goal

pub returns : goal.returns
returns c = c.or_else.ensures c.args.program.now idle (λ x. stop) 0
