use Rattle.std.proofs.Common.{◌≡◌, ◌++◌, length}
use Rattle.jc_infer.specs.Asked.{written}
use Rattle.jc_infer.proofs.giving.written.Given as goal

abbrev pub invariant-loop-rest : goal.invariant-loop-rest
invariant-loop-rest l = l.list ++ written l.rest l.others l.left ≡ written l.vars l.bounds l.args

abbrev pub decreases-loop-rest : goal.decreases-loop-rest
decreases-loop-rest l = length l.rest
