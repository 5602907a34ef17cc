use Rattle.std.proofs.Common.{◌≡◌, length}
use Rattle.jc_clashes.specs.Clear.{none_clear}
use Rattle.jc_clashes.proofs.clear.none_clear.Given as goal

abbrev pub invariant-loop-rest : goal.invariant-loop-rest
invariant-loop-rest l = none_clear l.table l.marks l.rest ≡ none_clear l.table l.marks l.fn.group

abbrev pub decreases-loop-rest : goal.decreases-loop-rest
decreases-loop-rest l = length l.rest
