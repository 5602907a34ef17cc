use Rattle.std.proofs.Common.{◌≡◌, length}
use Rattle.jc_judge.specs.Meeting.{clashes_before}
use Rattle.jc_sub.proofs.bounding.clashes_before.Given as goal

abbrev pub invariant-loop-rest : goal.invariant-loop-rest
invariant-loop-rest l = clashes_before l.table l.rest l.t ≡ clashes_before l.table l.fn.earlier l.t

abbrev pub decreases-loop-rest : goal.decreases-loop-rest
decreases-loop-rest l = length l.rest
