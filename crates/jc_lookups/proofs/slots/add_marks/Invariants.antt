use Rattle.std.proofs.Common.{◌≡◌, ◌++◌, take}
use Rattle.jc_lookups.specs.FieldMarks.{own_marks}
use Rattle.jc_lookups.proofs.slots.add_marks.Given as goal

abbrev pub invariant-loop-field : goal.invariant-loop-field
invariant-loop-field l = l.found ≡ l.initial.found ++ own_marks l.here l.name l.descriptor (take l.field-index l.fields)
