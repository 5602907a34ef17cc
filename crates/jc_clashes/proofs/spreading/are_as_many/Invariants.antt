use Rattle.std.proofs.Common.{◌≡◌, length}
use Rattle.jc_clashes.specs.Spreading.{are_as_many}
use Rattle.jc_clashes.proofs.spreading.are_as_many.Given as goal

abbrev pub invariant-loop-rest : goal.invariant-loop-rest
invariant-loop-rest l = are_as_many l.rest l.left ≡ are_as_many l.fn.sets l.fn.next

abbrev pub decreases-loop-rest : goal.decreases-loop-rest
decreases-loop-rest l = length l.rest
