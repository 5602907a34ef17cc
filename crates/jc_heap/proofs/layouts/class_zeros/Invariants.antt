use Rattle.std.proofs.Common.{◌≡◌, take}
use Rattle.std.specs.List.{flat_map}
use Rattle.jc_jvm.specs.Classes.{fields_of}
use Rattle.jc_heap.specs.Layouts.{own_zeros}
use Rattle.jc_heap.proofs.layouts.class_zeros.Given as goal

abbrev pub invariant-loop-number : goal.invariant-loop-number
invariant-loop-number l = l.found ≡ flat_map (λ k. own_zeros (fields_of l.classes k)) (take l.number-index l.number-items)
