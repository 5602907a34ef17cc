use Rattle.std.proofs.Common.{◌≡◌, replicate}
use Rattle.jc_heap.proofs.arrays.zeros.Given as goal

abbrev pub invariant-loop-made : goal.invariant-loop-made
invariant-loop-made l = l.items.items ≡ replicate l.made l.value
