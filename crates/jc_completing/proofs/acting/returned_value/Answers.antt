use Rattle.jc_running.specs.Outcomes.{stop}
use Rattle.jc_values.specs.Idle.{idle}
use Rattle.jc_completing.proofs.acting.returned_value.Goals as goal

pub returns : goal.returns
returns c = c.value_or_null.ensures c.args.program.now idle (λ x. stop) 0
