use Rattle.std.proofs.Common.{◌≡◌, length}
use Rattle.jc_judge.specs.Meeting.{classes_meet}
use Rattle.jc_sub.proofs.meeting.classes_meet.Given as goal

abbrev pub invariant-loop-rest : goal.invariant-loop-rest
invariant-loop-rest l = classes_meet l.table l.rest ≡ classes_meet l.table l.fn.types

abbrev pub decreases-loop-rest : goal.decreases-loop-rest
decreases-loop-rest l = length l.rest
