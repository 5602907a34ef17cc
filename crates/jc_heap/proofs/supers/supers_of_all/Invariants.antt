use Rattle.std.proofs.Common.{◌≡◌, map, take}
use Rattle.jc_heap.specs.Supers.{supers_in}
use Rattle.jc_heap.proofs.supers.supers_of_all.Given as goal

abbrev pub invariant-loop-class : goal.invariant-loop-class
invariant-loop-class l = l.found ≡ map (supers_in l.classes) (take l.class-index l.class-items)
