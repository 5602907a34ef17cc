use Rattle.std.proofs.Common.{◌≡◌, drop}
use Rattle.jc_types.specs.Breaks.{least}
use Rattle.jc_header_rules.specs.Places.{of_each}
use Rattle.jc_header_rules.specs.Types.{class_broken}
use Rattle.jc_type_rules.proofs.stage.classes_broken.Given as goal

abbrev pub invariant-loop-number : goal.invariant-loop-number
invariant-loop-number l = least l.found (of_each (class_broken l.table) l.number (drop l.number l.classes)) ≡ least l.initial.found (of_each (class_broken l.table) 0 l.classes)
