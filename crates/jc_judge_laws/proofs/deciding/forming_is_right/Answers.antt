use Rattle.jc_judge_laws.proofs.Decides.{formed_right}
use Rattle.jc_judge_laws.proofs.deciding.forming_is_right.Goals as goal

pub returns : goal.returns
returns c = formed_right
