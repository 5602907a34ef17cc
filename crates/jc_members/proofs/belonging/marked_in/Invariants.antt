use Rattle.std.proofs.Common.{◌≡◌, ◌++◌, length}
use Rattle.jc_members.specs.Listing.{marked_by}
use Rattle.jc_members.proofs.belonging.marked_in.Given as goal

abbrev pub invariant-loop-rest : goal.invariant-loop-rest
invariant-loop-rest l = l.out ++ marked_by l.table l.w l.rest l.left ≡ marked_by l.table l.w l.fn.ids l.fn.marks

abbrev pub decreases-loop-rest : goal.decreases-loop-rest
decreases-loop-rest l = length l.rest
