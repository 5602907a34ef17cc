use Rattle.std.proofs.Common.{◌≡◌, map, take}
use Rattle.jc_heap.specs.Signatures.{number_of}
use Rattle.jc_heap.proofs.selection.numbers_for.Given as goal

abbrev pub invariant-loop-method : goal.invariant-loop-method
invariant-loop-method l = l.found ≡ map (number_of l.classes) (take l.method-index l.method-items)
