use Rattle.std.proofs.Common.{◌≡◌, length, map}
use Rattle.jc_sub.specs.Reaching.{own_arg}
use Rattle.jc_sub.proofs.passing.are_own.Given as goal

abbrev pub invariant-loop-left : goal.invariant-loop-left
invariant-loop-left l = l.left ≡ map own_arg l.right → l.fn.args ≡ map own_arg l.fn.vars

abbrev pub decreases-loop-left : goal.decreases-loop-left
decreases-loop-left l = length l.left
