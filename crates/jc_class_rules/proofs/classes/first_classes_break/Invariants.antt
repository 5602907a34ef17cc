use Rattle.std.proofs.Common.{◌≡◌, drop}
use Rattle.jc_types.specs.Breaks.{least}
use Rattle.jc_header_rules.specs.Inheriting.{class_breaks}
use Rattle.jc_header_rules.specs.Places.{of_each}
use Rattle.jc_class_rules.proofs.classes.first_classes_break.Given as goal

abbrev pub invariant-loop-number : goal.invariant-loop-number
invariant-loop-number l = least l.found (of_each (class_breaks l.table) l.number (drop l.number l.classes)) ≡ least l.initial.found (of_each (class_breaks l.table) 0 l.classes)
