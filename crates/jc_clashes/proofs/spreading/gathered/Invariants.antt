use Rattle.std.proofs.Common.{◌≡◌, length}
use Rattle.jc_clashes.specs.Spreading.{gathered}
use Rattle.jc_clashes.proofs.spreading.gathered.Given as goal

abbrev pub invariant-loop-rest : goal.invariant-loop-rest
invariant-loop-rest l = gathered l.rest l.left l.out ≡ gathered l.fn.below l.fn.sets l.own

abbrev pub decreases-loop-rest : goal.decreases-loop-rest
decreases-loop-rest l = length l.rest
