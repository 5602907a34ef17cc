use Rattle.jc_erase_trees.proofs.Erased.{bulk_same}
use Rattle.jc_erase_trees.proofs.laws.bulk_stays.Goals as goal

pub returns : goal.returns
returns c = bulk_same
