use Rattle.std.proofs.Common.{◌≡◌, ◌++◌, length}
use Rattle.jc_judge.specs.Capturing.{fresh_args}
use Rattle.jc_sub.proofs.capturing.push_fresh.Given as goal

abbrev pub invariant-loop-left : goal.invariant-loop-left
invariant-loop-left l = l.out ++ fresh_args l.table l.vars l.by l.left l.rest ≡ l.fn.out ++ fresh_args l.table l.vars l.by l.fn.params l.fn.args

abbrev pub decreases-loop-left : goal.decreases-loop-left
decreases-loop-left l = length l.left
