use Rattle.std.proofs.Common.{◌≡◌, ◌++◌, length}
use Rattle.jc_lub.specs.Uncaptured.{all_passed}
use Rattle.jc_lub.proofs.passing.all_passed.Given as goal

abbrev pub invariant-loop-left : goal.invariant-loop-left
invariant-loop-left l = l.out ++ all_passed l.vars l.args l.left l.first l.second ≡ all_passed l.vars l.args l.fn.declared l.fn.ones l.fn.others

abbrev pub decreases-loop-left : goal.decreases-loop-left
decreases-loop-left l = length l.left
