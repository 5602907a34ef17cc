use Rattle.std.proofs.Common.{◌≡◌, length}
use Rattle.jc_lub.specs.Lubs.{has_below}
use Rattle.jc_lub.proofs.candidates.has_below.Given as goal

abbrev pub invariant-loop-rest : goal.invariant-loop-rest
invariant-loop-rest l = has_below l.table l.rest l.k ≡ has_below l.table l.fn.all l.k

abbrev pub decreases-loop-rest : goal.decreases-loop-rest
decreases-loop-rest l = length l.rest
