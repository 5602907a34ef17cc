use Rattle.std.proofs.Common.{◌≡◌, ◌++◌, length}
use Rattle.jc_lub.specs.Columns.{column}
use Rattle.jc_lub.proofs.columns.column.Given as goal

abbrev pub invariant-loop-rest : goal.invariant-loop-rest
invariant-loop-rest l = l.out ++ column l.place l.rest ≡ column l.place l.fn.views

abbrev pub decreases-loop-rest : goal.decreases-loop-rest
decreases-loop-rest l = length l.rest
