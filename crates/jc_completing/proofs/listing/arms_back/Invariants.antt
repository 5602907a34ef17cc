use Rattle.std.proofs.Common.{◌≡◌, []}
use Rattle.jc_typed.specs.Parts.{arms_of}
use Rattle.jc_places.specs.Sorts.{arms_before}
use Rattle.jc_pending.specs.Level.{arms_back}
use Rattle.jc_completing.proofs.listing.arms_back.Given as goal

abbrev pub invariant-loop-before : goal.invariant-loop-before
invariant-loop-before l = arms_before (arms_of l.nodes l.list) (arms_back l.nodes l.out) ≡ arms_before (arms_of l.nodes l.fn.at) []

abbrev pub decreases-loop-before : goal.decreases-loop-before
decreases-loop-before l = l.list
