use Rattle.std.proofs.Common.{◌≡◌, length}
use Rattle.jc_judge.specs.Meeting.{is_listed}
use Rattle.jc_sub.proofs.meeting.is_listed.Given as goal

abbrev pub invariant-loop-rest : goal.invariant-loop-rest
invariant-loop-rest l = is_listed l.t l.rest ≡ is_listed l.t l.fn.types

abbrev pub decreases-loop-rest : goal.decreases-loop-rest
decreases-loop-rest l = length l.rest
