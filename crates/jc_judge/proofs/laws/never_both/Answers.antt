use Rattle.jc_judge.proofs.Heights.{never_both}
use Rattle.jc_judge.proofs.laws.never_both.Goals as goal

pub returns : goal.returns
returns c = never_both
