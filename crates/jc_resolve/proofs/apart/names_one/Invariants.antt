use Rattle.std.proofs.Common.{◌≡◌, length}
use Rattle.jc_resolve.specs.Apart.{names_one}
use Rattle.jc_resolve.proofs.apart.names_one.Given as goal

abbrev pub invariant-loop-rest : goal.invariant-loop-rest
invariant-loop-rest l = names_one l.vars l.rest ≡ names_one l.vars l.types

abbrev pub decreases-loop-rest : goal.decreases-loop-rest
decreases-loop-rest l = length l.rest
