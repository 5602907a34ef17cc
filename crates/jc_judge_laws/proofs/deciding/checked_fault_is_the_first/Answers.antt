use Rattle.jc_judge_laws.proofs.Faulted.{checked_first}
use Rattle.jc_judge_laws.proofs.deciding.checked_fault_is_the_first.Goals as goal

pub returns : goal.returns
returns c = checked_first
