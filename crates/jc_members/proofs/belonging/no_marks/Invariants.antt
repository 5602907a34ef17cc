use Rattle.std.proofs.Common.{◌≡◌, ◌++◌, length}
use Rattle.jc_members.specs.Listing.{unmarked}
use Rattle.jc_members.proofs.belonging.no_marks.Given as goal

abbrev pub invariant-loop-rest : goal.invariant-loop-rest
invariant-loop-rest l = l.marks ++ unmarked l.rest ≡ unmarked l.fn.ids

abbrev pub decreases-loop-rest : goal.decreases-loop-rest
decreases-loop-rest l = length l.rest
