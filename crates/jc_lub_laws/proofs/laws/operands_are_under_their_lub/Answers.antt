use Rattle.jc_lub_laws.proofs.Joined.{operands_are_under}
use Rattle.jc_lub_laws.proofs.laws.operands_are_under_their_lub.Goals as goal

pub returns : goal.returns
returns c = operands_are_under
