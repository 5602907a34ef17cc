use Rattle.std.proofs.Common.{◌≡◌, map, take}
use Rattle.jc_heap.specs.Supers.{parent_in}
use Rattle.jc_heap.proofs.supers.parents_of_all.Given as goal

abbrev pub invariant-loop-class : goal.invariant-loop-class
invariant-loop-class l = l.found ≡ map (parent_in l.classes) (take l.class-index l.class-items)
