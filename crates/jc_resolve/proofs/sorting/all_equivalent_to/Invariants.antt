use Rattle.std.proofs.Common.{◌≡◌, length}
use Rattle.jc_resolve.specs.Choosing.{all_equivalent_to}
use Rattle.jc_resolve.proofs.sorting.all_equivalent_to.Given as goal

abbrev pub invariant-loop-rest : goal.invariant-loop-rest
invariant-loop-rest l = all_equivalent_to l.table l.a l.rest ≡ all_equivalent_to l.table l.a l.others

abbrev pub decreases-loop-rest : goal.decreases-loop-rest
decreases-loop-rest l = length l.rest
