use Rattle.jc_erased.proofs.SmoothMeaning.{run_stays, main_stays}
use Rattle.jc_erased.proofs.laws.ended_erased_runs_stay.Goals as goal

pub returns-clause-methods : goal.returns-clause-methods
returns-clause-methods c = run_stays

pub returns-clause-mains : goal.returns-clause-mains
returns-clause-mains c = main_stays
