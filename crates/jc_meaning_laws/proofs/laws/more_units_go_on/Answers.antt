use Rattle.jc_meaning_laws.proofs.Going.{methods_go_on, mains_go_on}
use Rattle.jc_meaning_laws.proofs.laws.more_units_go_on.Goals as goal

pub returns-clause-methods : goal.returns-clause-methods
returns-clause-methods c = methods_go_on

pub returns-clause-mains : goal.returns-clause-mains
returns-clause-mains c = mains_go_on
