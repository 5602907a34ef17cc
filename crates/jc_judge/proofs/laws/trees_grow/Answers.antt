use Rattle.jc_judge.proofs.Heights.{higher, higher_refutation}
use Rattle.jc_judge.proofs.laws.trees_grow.Goals as goal

pub returns : goal.returns
returns c = record { proofs = higher; refutations = higher_refutation }
