use Rattle.std.proofs.Common.{◌≡◌, length}
use Rattle.jc_meaning.specs.Kept.{bound_to}
use Rattle.jc_kept.proofs.closing.bound_to.Given as goal

abbrev pub invariant-loop-rest : goal.invariant-loop-rest
invariant-loop-rest l = bound_to l.v l.fn.vars ≡ bound_to l.v l.rest

abbrev pub decreases-loop-rest : goal.decreases-loop-rest
decreases-loop-rest l = length l.rest
