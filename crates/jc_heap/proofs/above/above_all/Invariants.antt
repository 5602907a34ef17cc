use Rattle.jc_heap.specs.Above.{SoFar}
use Rattle.jc_heap.proofs.above.above_all.Given as goal

-- each class so far has what stands above it
abbrev pub invariant-loop-class : goal.invariant-loop-class
invariant-loop-class l = SoFar l.supers l.above l.marks.items l.class
