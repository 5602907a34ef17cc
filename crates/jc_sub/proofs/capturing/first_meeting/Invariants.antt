use Rattle.std.proofs.Common.{◌≡◌, length}
use Rattle.jc_judge.specs.Capturing.{first_meeting}
use Rattle.jc_sub.proofs.capturing.first_meeting.Given as goal

abbrev pub invariant-loop-left : goal.invariant-loop-left
invariant-loop-left l = first_meeting l.table l.vars l.by l.i l.left l.rest ≡ first_meeting l.table l.vars l.by 0 l.vars l.fn.args

abbrev pub decreases-loop-left : goal.decreases-loop-left
decreases-loop-left l = length l.left
