use Rattle.std.proofs.Common.{◌≡◌, ◌++◌, length}
use Rattle.jc_judge.specs.Forming.{all_bare}
use Rattle.jc_wellformed.proofs.forming.all_bare.Given as goal

abbrev pub invariant-loop-left : goal.invariant-loop-left
invariant-loop-left l = l.out ++ all_bare l.table l.vars l.by l.left l.rest ≡ all_bare l.table l.vars l.by l.vars l.args

abbrev pub decreases-loop-left : goal.decreases-loop-left
decreases-loop-left l = length l.left
