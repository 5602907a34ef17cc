use Rattle.std.proofs.Common.{◌≡◌, length}
use Rattle.jc_lub.specs.Columns.{one_raw}
use Rattle.jc_lub.proofs.columns.one_raw.Given as goal

abbrev pub invariant-loop-rest : goal.invariant-loop-rest
invariant-loop-rest l = one_raw l.count l.rest ≡ one_raw l.count l.fn.views

abbrev pub decreases-loop-rest : goal.decreases-loop-rest
decreases-loop-rest l = length l.rest
