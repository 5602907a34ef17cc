use Rattle.std.proofs.Common.{◌≡◌, ◌+◌, ◌++◌, length}
use Rattle.jc_lub.specs.Uncaptured.{filled}
use Rattle.jc_lub.proofs.passing.filled.Given as goal

abbrev pub invariant-loop-rest : goal.invariant-loop-rest
invariant-loop-rest l = (l.out ++ filled l.x l.rest ≡ filled l.x l.fn.args) × (length l.out + length l.rest ≡ length l.fn.args)

abbrev pub decreases-loop-rest : goal.decreases-loop-rest
decreases-loop-rest l = length l.rest
