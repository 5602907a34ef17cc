use Rattle.std.proofs.Common.{◌≡◌, ◌++◌, length}
use Rattle.jc_resolve.proofs.copying.copy_variables.Given as goal

abbrev pub invariant-loop-rest : goal.invariant-loop-rest
invariant-loop-rest l = l.list ++ l.rest ≡ l.vars

abbrev pub decreases-loop-rest : goal.decreases-loop-rest
decreases-loop-rest l = length l.rest
