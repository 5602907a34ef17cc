use Rattle.jc_lub_laws.proofs.Fitting.{operands_are_below}
use Rattle.jc_lub_laws.proofs.laws.operands_are_below_their_lub.Goals as goal

pub returns : goal.returns
returns c = operands_are_below
