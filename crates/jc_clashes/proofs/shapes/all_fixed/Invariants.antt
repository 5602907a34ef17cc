use Rattle.std.proofs.Common.{◌≡◌, length}
use Rattle.jc_clashes.specs.Shapes.{all_fixed}
use Rattle.jc_clashes.proofs.shapes.all_fixed.Given as goal

abbrev pub invariant-loop-rest : goal.invariant-loop-rest
invariant-loop-rest l = all_fixed l.table l.rest ≡ all_fixed l.table l.fn.ids

abbrev pub decreases-loop-rest : goal.decreases-loop-rest
decreases-loop-rest l = length l.rest
