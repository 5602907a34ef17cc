use Rattle.std.proofs.Common.{◌≡◌, ◌++◌, length}
use Rattle.jc_judge.specs.Capturing.{captured_args}
use Rattle.jc_sub.proofs.capturing.push_captured.Given as goal

abbrev pub invariant-loop-rest : goal.invariant-loop-rest
invariant-loop-rest l = l.out ++ captured_args l.next l.rest ≡ l.fn.out ++ captured_args l.fn.start l.fn.args

abbrev pub decreases-loop-rest : goal.decreases-loop-rest
decreases-loop-rest l = length l.rest
