use Rattle.std.proofs.Common.{◌≡◌, ◌++◌, length}
use Rattle.jc_judge.specs.Meeting.{uncovered}
use Rattle.jc_sub.proofs.meeting.push_uncovered.Given as goal

abbrev pub invariant-loop-rest : goal.invariant-loop-rest
invariant-loop-rest l = l.out ++ uncovered l.table l.all l.rest ≡ l.fn.out ++ uncovered l.table l.all l.fn.types

abbrev pub decreases-loop-rest : goal.decreases-loop-rest
decreases-loop-rest l = length l.rest
