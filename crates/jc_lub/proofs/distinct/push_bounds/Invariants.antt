use Rattle.std.proofs.Common.{◌≡◌, ◌++◌, length}
use Rattle.jc_lub.proofs.distinct.push_bounds.Given as goal

abbrev pub invariant-loop-rest : goal.invariant-loop-rest
invariant-loop-rest l = l.out ++ l.rest ≡ l.fn.out ++ l.fn.bounds

abbrev pub decreases-loop-rest : goal.decreases-loop-rest
decreases-loop-rest l = length l.rest
