use Rattle.jc_components.specs.Marks.{AreReached}
use Rattle.jc_components.proofs.marking.searched.Given as goal

abbrev pub invariant-loop-vertex : goal.invariant-loop-vertex
invariant-loop-vertex l = AreReached l.rows l.marks l.vertex
