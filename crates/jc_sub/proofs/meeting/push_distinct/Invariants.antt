use Rattle.std.proofs.Common.{◌≡◌, length}
use Rattle.jc_judge.specs.Meeting.{distinct}
use Rattle.jc_sub.proofs.meeting.push_distinct.Given as goal

abbrev pub invariant-loop-rest : goal.invariant-loop-rest
invariant-loop-rest l = distinct l.out l.rest ≡ distinct l.fn.out l.fn.types

abbrev pub decreases-loop-rest : goal.decreases-loop-rest
decreases-loop-rest l = length l.rest
