use Rattle.std.proofs.Common.{length}
use Rattle.jc_heap.specs.Above.{Filled}
use Rattle.jc_heap.proofs.above.add_all.Given as goal

-- the walk over what is left
abbrev pub invariant-loop-rest : goal.invariant-loop-rest
invariant-loop-rest l = Filled l.classes l.rest l.initial.marks.items l.marks.items l.initial.found.items l.found.items

abbrev pub decreases-loop-rest : goal.decreases-loop-rest
decreases-loop-rest l = length l.rest
