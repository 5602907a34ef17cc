use Rattle.std.proofs.Common.{◌≡◌, length}
use Rattle.jc_clashes.specs.Clear.{all_apart}
use Rattle.jc_clashes.proofs.clear.all_apart.Given as goal

abbrev pub invariant-loop-rest : goal.invariant-loop-rest
invariant-loop-rest l = all_apart l.table l.marks l.rest ≡ all_apart l.table l.marks l.fn.groups

abbrev pub decreases-loop-rest : goal.decreases-loop-rest
decreases-loop-rest l = length l.rest
