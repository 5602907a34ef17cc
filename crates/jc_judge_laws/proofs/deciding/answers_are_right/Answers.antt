use Rattle.jc_judge_laws.proofs.Decides.{answer_right}
use Rattle.jc_judge_laws.proofs.deciding.answers_are_right.Goals as goal

pub returns : goal.returns
returns c = answer_right
