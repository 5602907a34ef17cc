use Rattle.std.proofs.Common.{◌≡◌, ◌++◌, take}
use Rattle.jc_heap.specs.Strings.{own_marks}
use Rattle.jc_heap.proofs.layouts.add_marks.Given as goal

abbrev pub invariant-loop-field : goal.invariant-loop-field
invariant-loop-field l = l.found ≡ l.initial.found ++ own_marks (take l.field-index l.fields)
