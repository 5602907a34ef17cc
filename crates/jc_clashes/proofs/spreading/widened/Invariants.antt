use Rattle.std.proofs.Common.{◌≡◌, ◌++◌, length}
use Rattle.jc_clashes.specs.Spreading.{widened}
use Rattle.jc_clashes.proofs.spreading.widened.Given as goal

abbrev pub invariant-loop-rest : goal.invariant-loop-rest
invariant-loop-rest l = l.out ++ widened l.rest l.sets l.left ≡ widened l.fn.belows l.sets l.sets

abbrev pub decreases-loop-rest : goal.decreases-loop-rest
decreases-loop-rest l = length l.rest
