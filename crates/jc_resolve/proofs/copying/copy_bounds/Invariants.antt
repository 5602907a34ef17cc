use Rattle.std.proofs.Common.{◌≡◌, ◌++◌, length}
use Rattle.jc_resolve.proofs.copying.copy_bounds.Given as goal

abbrev pub invariant-loop-rest : goal.invariant-loop-rest
invariant-loop-rest l = l.list ++ l.rest ≡ l.bounds

abbrev pub decreases-loop-rest : goal.decreases-loop-rest
decreases-loop-rest l = length l.rest
