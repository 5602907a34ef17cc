use Rattle.std.proofs.Common.{◌≡◌, length}
use Rattle.jc_members.specs.Listing.{marked_by_all, unmarked}
use Rattle.jc_members.proofs.belonging.all_marked.Given as goal

abbrev pub invariant-loop-rest : goal.invariant-loop-rest
invariant-loop-rest l = marked_by_all l.table l.rest l.ids l.marks ≡ marked_by_all l.table l.ids l.ids (unmarked l.ids)

abbrev pub decreases-loop-rest : goal.decreases-loop-rest
decreases-loop-rest l = length l.rest
