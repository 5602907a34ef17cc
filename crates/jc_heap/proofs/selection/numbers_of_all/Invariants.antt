use Rattle.std.proofs.Common.{◌≡◌, map, take}
use Rattle.jc_heap.specs.Signatures.{numbers_in}
use Rattle.jc_heap.proofs.selection.numbers_of_all.Given as goal

abbrev pub invariant-loop-class : goal.invariant-loop-class
invariant-loop-class l = l.found ≡ map (numbers_in l.classes) (take l.class-index l.class-items)
