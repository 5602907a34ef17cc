use Rattle.jc_heap.specs.Above.{IsBlank}
use Rattle.jc_heap.proofs.above.blank.Given as goal

abbrev pub invariant-loop-made : goal.invariant-loop-made
invariant-loop-made l = IsBlank l.marks.items l.made
