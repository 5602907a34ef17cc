use Rattle.std.proofs.Common.{◌≡◌, ◌++◌, filter, not, length}
use Rattle.jc_judge.specs.Kinds.{is_object}
use Rattle.jc_sub.proofs.meeting.push_others.Given as goal

abbrev pub invariant-loop-rest : goal.invariant-loop-rest
invariant-loop-rest l = l.out ++ filter (λ b. not (is_object b)) l.rest ≡ l.fn.out ++ filter (λ b. not (is_object b)) l.fn.bounds

abbrev pub decreases-loop-rest : goal.decreases-loop-rest
decreases-loop-rest l = length l.rest
