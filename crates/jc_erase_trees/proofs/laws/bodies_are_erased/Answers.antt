use Rattle.jc_erase_trees.proofs.Erased.{bodies_erased}
use Rattle.jc_erase_trees.proofs.laws.bodies_are_erased.Goals as goal

pub returns : goal.returns
returns c = bodies_erased
