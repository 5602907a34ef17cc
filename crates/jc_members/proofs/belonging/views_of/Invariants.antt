use Rattle.std.proofs.Common.{◌≡◌, ◌++◌, length}
use Rattle.jc_members.specs.Listing.{views_of}
use Rattle.jc_members.proofs.belonging.views_of.Given as goal

abbrev pub invariant-loop-rest : goal.invariant-loop-rest
invariant-loop-rest l = l.out ++ views_of l.table l.above.of l.rest ≡ views_of l.table l.above.of l.fn.ids

abbrev pub decreases-loop-rest : goal.decreases-loop-rest
decreases-loop-rest l = length l.rest
