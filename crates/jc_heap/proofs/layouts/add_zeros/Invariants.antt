use Rattle.std.proofs.Common.{◌≡◌, ◌++◌, take}
use Rattle.jc_heap.specs.Layouts.{own_zeros}
use Rattle.jc_heap.proofs.layouts.add_zeros.Given as goal

abbrev pub invariant-loop-field : goal.invariant-loop-field
invariant-loop-field l = l.found ≡ l.initial.found ++ own_zeros (take l.field-index l.fields)
