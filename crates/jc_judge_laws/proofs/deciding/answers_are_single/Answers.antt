use Rattle.jc_judge_laws.proofs.Decides.{answer_single}
use Rattle.jc_judge_laws.proofs.deciding.answers_are_single.Goals as goal

pub returns : goal.returns
returns c = answer_single
