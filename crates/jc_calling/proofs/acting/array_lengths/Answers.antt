use Rattle.jc_values.specs.Idle.{idle}
use Rattle.jc_calling.proofs.acting.array_lengths.Goals as goal

pub returns : goal.returns
returns c = c.lengths_of.ensures idle
