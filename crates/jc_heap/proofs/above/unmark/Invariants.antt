use Rattle.std.proofs.Common.{length}
use Rattle.jc_heap.specs.Above.{Cleared}
use Rattle.jc_heap.proofs.above.unmark.Given as goal

-- only what is left has marks
abbrev pub invariant-loop-rest : goal.invariant-loop-rest
invariant-loop-rest l = Cleared l.found l.rest l.initial.marks.items l.marks.items

abbrev pub decreases-loop-rest : goal.decreases-loop-rest
decreases-loop-rest l = length l.rest
