use Rattle.std.proofs.Common.{◌≡◌, length}
use Rattle.jc_judge.specs.Meeting.{is_covered}
use Rattle.jc_sub.proofs.meeting.is_covered.Given as goal

abbrev pub invariant-loop-rest : goal.invariant-loop-rest
invariant-loop-rest l = is_covered l.table l.t l.rest ≡ is_covered l.table l.t l.fn.others

abbrev pub decreases-loop-rest : goal.decreases-loop-rest
decreases-loop-rest l = length l.rest
