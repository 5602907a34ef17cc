use Rattle.std.proofs.Common.{◌≡◌, length}
use Rattle.jc_judge.specs.Capturing.{meeting_parts}
use Rattle.jc_sub.proofs.capturing.meeting_parts.Given as goal

abbrev pub invariant-loop-rest : goal.invariant-loop-rest
invariant-loop-rest l = meeting_parts l.table l.next l.rest ≡ meeting_parts l.table l.fn.start l.fn.parts

abbrev pub decreases-loop-rest : goal.decreases-loop-rest
decreases-loop-rest l = length l.rest
