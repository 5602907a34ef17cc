use Rattle.jc_repair.proofs.Upward.{repairs_are_above}
use Rattle.jc_repair.proofs.laws.repairs_are_above.Goals as goal

pub returns : goal.returns
returns c = repairs_are_above
