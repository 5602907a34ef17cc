use Rattle.std.proofs.Common.{◌≡◌, length}
use Rattle.jc_clashes.specs.Clear.{all_clear}
use Rattle.jc_clashes.proofs.clear.all_clear.Given as goal

abbrev pub invariant-loop-rest : goal.invariant-loop-rest
invariant-loop-rest l = all_clear l.marks l.rest ≡ all_clear l.marks l.fn.types

abbrev pub decreases-loop-rest : goal.decreases-loop-rest
decreases-loop-rest l = length l.rest
