use Rattle.std.proofs.Common.{subst}
use Rattle.jc_front.specs.Stages.{StopsUnits}
use Rattle.jc_front.proofs.Reached.{units_stop}
use Rattle.jc_front.proofs.reading.sources_of.Goals as goal

-- what stops the units behind the trees stops the sources
pub returns-in-Err-clause-refused : goal.returns-in-Err-clause-refused
returns-in-Err-clause-refused c = units_stop c.args.texts.now c.slice.result.now c.in_ok-units.units c.in-Err.stop c.in_ok-units.ensures.units (subst (λ units. StopsUnits units c.in-Err.stop) c.slice-2.ensures c.in-Err.ensures.refused)
