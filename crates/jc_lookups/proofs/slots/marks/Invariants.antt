use Rattle.std.proofs.Common.{◌≡◌, ◌==◌, take}
use Rattle.std.specs.List.{flat_map}
use Rattle.jc_jvm.specs.Classes.{fields_of}
use Rattle.jc_lookups.specs.FieldMarks.{own_marks}
use Rattle.jc_lookups.proofs.slots.marks.Given as goal

abbrev pub invariant-loop-number : goal.invariant-loop-number
invariant-loop-number l = l.found ≡ flat_map (λ k. own_marks (k == l.class) l.name l.descriptor (fields_of l.classes k)) (take l.number-index l.number-items)
