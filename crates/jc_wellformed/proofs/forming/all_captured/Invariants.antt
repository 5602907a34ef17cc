use Rattle.std.proofs.Common.{◌≡◌, ◌++◌, length}
use Rattle.jc_judge.specs.Forming.{all_captured}
use Rattle.jc_wellformed.proofs.forming.all_captured.Given as goal

abbrev pub invariant-loop-left : goal.invariant-loop-left
invariant-loop-left l = l.out ++ all_captured l.table l.vars l.by l.left l.types l.rest ≡ all_captured l.table l.vars l.by l.vars l.by l.args

abbrev pub decreases-loop-left : goal.decreases-loop-left
decreases-loop-left l = length l.left
