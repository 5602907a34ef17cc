use Rattle.std.proofs.Common.{◌≡◌, length}
use Rattle.jc_folding.specs.Folding.{same_units}
use Rattle.jc_folding.proofs.spelling.same_units.Given as goal

abbrev pub invariant-loop-left : goal.invariant-loop-left
invariant-loop-left l = same_units l.left l.right ≡ same_units l.fn.xs l.fn.ys

abbrev pub decreases-loop-left : goal.decreases-loop-left
decreases-loop-left l = length l.left
