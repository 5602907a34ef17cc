use Rattle.std.proofs.Common.{◌≡◌, length}
use Rattle.jc_lub.specs.Columns.{behind, uppers}
use Rattle.jc_lub.proofs.columns.uppers.Given as goal

abbrev pub invariant-loop-rest : goal.invariant-loop-rest
invariant-loop-rest l = behind l.out (uppers l.rest) ≡ uppers l.fn.args

abbrev pub decreases-loop-rest : goal.decreases-loop-rest
decreases-loop-rest l = length l.rest
