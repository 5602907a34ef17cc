use Rattle.jc_judge_laws.proofs.Flat.{bound_is_flat}
use Rattle.jc_judge_laws.proofs.viewing.bounds_are_flat.Goals as goal

pub returns : goal.returns
returns c = bound_is_flat
