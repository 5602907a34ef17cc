use Rattle.std.proofs.Common.{◌≡◌, length}
use Rattle.jc_resolve.specs.Choosing.{first_with_body}
use Rattle.jc_resolve.proofs.sorting.first_with_body.Given as goal

abbrev pub invariant-loop-rest : goal.invariant-loop-rest
invariant-loop-rest l = first_with_body l.table l.rest ≡ first_with_body l.table l.candidates

abbrev pub decreases-loop-rest : goal.decreases-loop-rest
decreases-loop-rest l = length l.rest
