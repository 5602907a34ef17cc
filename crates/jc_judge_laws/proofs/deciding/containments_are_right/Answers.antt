use Rattle.jc_judge_laws.proofs.Decides.{contained_right}
use Rattle.jc_judge_laws.proofs.deciding.containments_are_right.Goals as goal

pub returns : goal.returns
returns c = contained_right
