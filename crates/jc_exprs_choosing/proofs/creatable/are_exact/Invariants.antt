use Rattle.std.proofs.Common.{◌≡◌, length}
use Rattle.jc_judge.specs.Meeting.{are_exact}
use Rattle.jc_exprs_choosing.proofs.creatable.are_exact.Given as goal

abbrev pub invariant-loop-rest : goal.invariant-loop-rest
invariant-loop-rest l = are_exact l.rest ≡ are_exact l.fn.args

abbrev pub decreases-loop-rest : goal.decreases-loop-rest
decreases-loop-rest l = length l.rest
