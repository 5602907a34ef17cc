use Rattle.std.proofs.Common.{◌≡◌, ◌++◌, length}
use Rattle.jc_judge.specs.Meeting.{brings_clash}
use Rattle.jc_sub.proofs.bounding.add_parts.Given as goal

abbrev pub invariant-loop-rest : goal.invariant-loop-rest
invariant-loop-rest l =
    (brings_clash l.table l.earlier l.rest ≡ brings_clash l.table l.fn.earlier l.fn.parts) × (l.earlier ++ l.rest ≡ l.fn.earlier ++ l.fn.parts)

abbrev pub decreases-loop-rest : goal.decreases-loop-rest
decreases-loop-rest l = length l.rest
