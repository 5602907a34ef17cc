use Rattle.std.proofs.Common.{◌≡◌, ◌++◌, length}
use Rattle.jc_clashes.proofs.erasures.copied.Given as goal

abbrev pub invariant-loop-rest : goal.invariant-loop-rest
invariant-loop-rest l = l.out ++ l.rest ≡ l.fn.es

abbrev pub decreases-loop-rest : goal.decreases-loop-rest
decreases-loop-rest l = length l.rest
