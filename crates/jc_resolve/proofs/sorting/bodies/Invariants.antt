use Rattle.std.proofs.Common.{◌≡◌, ◌+◌, ◌≤◌, length}
use Rattle.jc_resolve.specs.Choosing.{bodies}
use Rattle.jc_resolve.proofs.sorting.bodies.Given as goal

abbrev pub invariant-loop-rest : goal.invariant-loop-rest
invariant-loop-rest l = (l.count + bodies l.table l.rest ≡ bodies l.table l.candidates) × (l.count + length l.rest ≤ length l.candidates)

abbrev pub decreases-loop-rest : goal.decreases-loop-rest
decreases-loop-rest l = length l.rest
