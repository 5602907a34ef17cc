use Rattle.std.proofs.Common.{◌≡◌, length}
use Rattle.jc_resolve.specs.Choosing.{all_equivalent}
use Rattle.jc_resolve.proofs.sorting.all_equivalent.Given as goal

abbrev pub invariant-loop-rest : goal.invariant-loop-rest
invariant-loop-rest l = all_equivalent l.table l.rest ≡ all_equivalent l.table l.candidates

abbrev pub decreases-loop-rest : goal.decreases-loop-rest
decreases-loop-rest l = length l.rest
