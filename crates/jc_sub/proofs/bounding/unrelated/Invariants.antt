use Rattle.std.proofs.Common.{◌≡◌, [], length}
use Rattle.jc_judge.specs.Meeting.{unrelated_from}
use Rattle.jc_sub.proofs.bounding.unrelated.Given as goal

abbrev pub invariant-loop-rest : goal.invariant-loop-rest
invariant-loop-rest l = unrelated_from l.table l.earlier l.i l.rest ≡ unrelated_from l.table [] 0 l.fn.types

abbrev pub decreases-loop-rest : goal.decreases-loop-rest
decreases-loop-rest l = length l.rest
