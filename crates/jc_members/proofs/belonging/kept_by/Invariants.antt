use Rattle.std.proofs.Common.{◌≡◌, ◌++◌, length}
use Rattle.jc_members.specs.Listing.{kept_by}
use Rattle.jc_members.proofs.belonging.kept_by.Given as goal

abbrev pub invariant-loop-rest : goal.invariant-loop-rest
invariant-loop-rest l = l.out ++ kept_by l.rest l.left ≡ kept_by l.fn.ids l.fn.marks

abbrev pub decreases-loop-rest : goal.decreases-loop-rest
decreases-loop-rest l = length l.rest
