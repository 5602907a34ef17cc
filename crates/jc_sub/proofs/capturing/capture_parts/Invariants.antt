use Rattle.std.proofs.Common.{◌≡◌, ◌++◌, length}
use Rattle.jc_judge.specs.Capturing.{capture_parts}
use Rattle.jc_sub.proofs.capturing.capture_parts.Given as goal

abbrev pub invariant-loop-rest : goal.invariant-loop-rest
invariant-loop-rest l =
    (l.types ++ (capture_parts l.table l.next l.rest).types ≡ l.fn.types ++ (capture_parts l.table l.fn.start l.fn.parts).types)
    × (l.fresh ++ (capture_parts l.table l.next l.rest).fresh ≡ l.fn.fresh ++ (capture_parts l.table l.fn.start l.fn.parts).fresh)

abbrev pub decreases-loop-rest : goal.decreases-loop-rest
decreases-loop-rest l = length l.rest
