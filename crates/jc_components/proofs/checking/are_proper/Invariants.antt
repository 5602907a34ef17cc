use Rattle.jc_components.specs.Claims.{AllProper}
use Rattle.jc_components.proofs.checking.are_proper.Given as goal

abbrev pub invariant-loop-vertex : goal.invariant-loop-vertex
invariant-loop-vertex l = AllProper l.rows l.claims l.vertex
