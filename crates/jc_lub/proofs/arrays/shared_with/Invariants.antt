use Rattle.std.proofs.Common.{◌≡◌, length}
use Rattle.jc_lub.specs.Lubs.{shared_with}
use Rattle.jc_lub.proofs.arrays.shared_with.Given as goal

abbrev pub invariant-loop-rest : goal.invariant-loop-rest
invariant-loop-rest l = shared_with l.least l.rest ≡ shared_with l.fn.first l.fn.types

abbrev pub decreases-loop-rest : goal.decreases-loop-rest
decreases-loop-rest l = length l.rest
