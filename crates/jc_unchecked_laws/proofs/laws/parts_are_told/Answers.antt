use Rattle.jc_unchecked_laws.proofs.Lists.{parts_told}
use Rattle.jc_unchecked_laws.proofs.laws.parts_are_told.Goals as goal

pub returns : goal.returns
returns c = parts_told
