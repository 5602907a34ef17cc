use Rattle.std.proofs.Common.{◌≡◌, length}
use Rattle.jc_lub.specs.Columns.{all_same}
use Rattle.jc_lub.proofs.columns.all_same.Given as goal

abbrev pub invariant-loop-rest : goal.invariant-loop-rest
invariant-loop-rest l = all_same l.first l.rest ≡ all_same l.first l.fn.args

abbrev pub decreases-loop-rest : goal.decreases-loop-rest
decreases-loop-rest l = length l.rest
