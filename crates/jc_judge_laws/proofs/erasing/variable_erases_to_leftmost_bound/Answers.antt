use Rattle.jc_judge_laws.proofs.Grounded.{leftmost_erased}
use Rattle.jc_judge_laws.proofs.erasing.variable_erases_to_leftmost_bound.Goals as goal

pub returns : goal.returns
returns c = leftmost_erased
