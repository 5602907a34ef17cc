use Rattle.jc_judge_laws.proofs.Grounded.{longer_erased}
use Rattle.jc_judge_laws.proofs.erasing.longer_env_erases_alike.Goals as goal

pub returns : goal.returns
returns c = longer_erased
