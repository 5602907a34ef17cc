use Rattle.std.proofs.Common.{◌≡◌, ◌++◌, length}
use Rattle.jc_judge.specs.Meeting.{flattened}
use Rattle.jc_exprs_settling.proofs.opening.push_flat.Given as goal

abbrev pub invariant-loop-rest : goal.invariant-loop-rest
invariant-loop-rest l = l.out ++ flattened l.rest ≡ l.fn.out ++ flattened l.fn.types

abbrev pub decreases-loop-rest : goal.decreases-loop-rest
decreases-loop-rest l = length l.rest
