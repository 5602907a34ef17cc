use Rattle.std.proofs.Common.{◌≡◌, map}
use Rattle.std.specs.List.{range_with_len}
use Rattle.jc_jvm.specs.Types.{new_fields}
use Rattle.jc_heap.proofs.layouts.zeros_of_all.Given as goal

abbrev pub invariant-loop-class : goal.invariant-loop-class
invariant-loop-class l = l.found ≡ map (new_fields l.classes) (range_with_len 0 l.class)
