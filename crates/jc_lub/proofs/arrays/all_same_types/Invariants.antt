use Rattle.std.proofs.Common.{◌≡◌, length}
use Rattle.jc_lub.specs.Lubs.{all_same_types}
use Rattle.jc_lub.proofs.arrays.all_same_types.Given as goal

abbrev pub invariant-loop-rest : goal.invariant-loop-rest
invariant-loop-rest l = all_same_types l.first l.rest ≡ all_same_types l.first l.fn.types

abbrev pub decreases-loop-rest : goal.decreases-loop-rest
decreases-loop-rest l = length l.rest
