use Rattle.jc_erased.proofs.SmoothMeaning.{run_goes_on, main_goes_on}
use Rattle.jc_erased.proofs.laws.one_unit_more_of_erased.Goals as goal

pub returns-clause-methods : goal.returns-clause-methods
returns-clause-methods c = run_goes_on

pub returns-clause-mains : goal.returns-clause-mains
returns-clause-mains c = main_goes_on
