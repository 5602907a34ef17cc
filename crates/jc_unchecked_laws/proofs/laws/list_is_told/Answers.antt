use Rattle.jc_unchecked_laws.proofs.Lists.{listed_told, told_listed}
use Rattle.jc_unchecked_laws.proofs.laws.list_is_told.Goals as goal

pub returns-clause-to : goal.returns-clause-to
returns-clause-to c = listed_told

pub returns-clause-back : goal.returns-clause-back
returns-clause-back c = told_listed
