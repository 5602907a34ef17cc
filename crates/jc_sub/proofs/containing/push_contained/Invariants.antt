use Rattle.std.proofs.Common.{◌≡◌, ◌++◌, length}
use Rattle.jc_judge.specs.Asking.{all_contained}
use Rattle.jc_sub.proofs.containing.push_contained.Given as goal

abbrev pub invariant-loop-left : goal.invariant-loop-left
invariant-loop-left l = l.out ++ all_contained l.left l.right ≡ l.fn.out ++ all_contained l.fn.xs l.fn.ys

abbrev pub decreases-loop-left : goal.decreases-loop-left
decreases-loop-left l = length l.left
