use Rattle.std.proofs.Common.{◌≡◌, length}
use Rattle.jc_lub.specs.Uncaptured.{arg_for}
use Rattle.jc_lub.proofs.passing.arg_for.Given as goal

abbrev pub invariant-loop-left : goal.invariant-loop-left
invariant-loop-left l = arg_for l.left l.rest l.v ≡ arg_for l.fn.vars l.fn.args l.v

abbrev pub decreases-loop-left : goal.decreases-loop-left
decreases-loop-left l = length l.left
