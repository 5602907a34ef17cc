use Rattle.std.proofs.Common.{◌≡◌, ◌++◌, length}
use Rattle.jc_members.specs.Listing.{candidate_ids}
use Rattle.jc_members.proofs.belonging.candidate_ids.Given as goal

abbrev pub invariant-loop-rest : goal.invariant-loop-rest
invariant-loop-rest l = l.out ++ candidate_ids l.table l.above.of l.rest ≡ candidate_ids l.table l.above.of l.fn.ids

abbrev pub decreases-loop-rest : goal.decreases-loop-rest
decreases-loop-rest l = length l.rest
