use Rattle.jc_unchecked_laws.proofs.Lists.{list_ascends}
use Rattle.jc_unchecked_laws.proofs.laws.list_ascends.Goals as goal

pub returns : goal.returns
returns c = list_ascends
