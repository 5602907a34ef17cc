use Rattle.std.proofs.Common.{◌≡◌, ◌++◌, length}
use Rattle.jc_resolve.specs.Parameters.{bounded_by}
use Rattle.jc_resolve.proofs.parameters.bounded_by.Given as goal

abbrev pub invariant-loop-rest : goal.invariant-loop-rest
invariant-loop-rest l = l.list ++ bounded_by l.vars l.by l.rest ≡ bounded_by l.vars l.by l.bounds

abbrev pub decreases-loop-rest : goal.decreases-loop-rest
decreases-loop-rest l = length l.rest
