use Rattle.std.proofs.Common.{◌≡◌, ◌++◌, length}
use Rattle.jc_clashes.specs.Shapes.{above_at}
use Rattle.jc_clashes.proofs.shapes.above_at.Given as goal

abbrev pub invariant-loop-rest : goal.invariant-loop-rest
invariant-loop-rest l = l.out ++ above_at l.at l.rest l.left ≡ above_at l.at l.fn.ids l.fn.belows

abbrev pub decreases-loop-rest : goal.decreases-loop-rest
decreases-loop-rest l = length l.rest
