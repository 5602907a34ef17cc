use Rattle.std.proofs.Common.{◌≡◌, ◌++◌, filter, length}
use Rattle.jc_lub.specs.Lubs.{not_null}
use Rattle.jc_lub.proofs.arrays.without_null.Given as goal

abbrev pub invariant-loop-rest : goal.invariant-loop-rest
invariant-loop-rest l = l.out ++ filter not_null l.rest ≡ filter not_null l.fn.types

abbrev pub decreases-loop-rest : goal.decreases-loop-rest
decreases-loop-rest l = length l.rest
