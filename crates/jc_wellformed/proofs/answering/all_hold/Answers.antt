use Rattle.jc_judge_laws.proofs.Decides.{hold_single}
use Rattle.jc_wellformed.proofs.answering.all_hold.Goals as goal
use Rattle.jc_sub.proofs.Decided.{if_ok_along}

pub returns-clause-answer : goal.returns-clause-answer
returns-clause-answer c = if_ok_along _ _ _ (λ a. hold_single _ _ _ _ a) c.every.ensures.answer
