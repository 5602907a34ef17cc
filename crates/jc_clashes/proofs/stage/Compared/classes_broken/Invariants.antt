use Rattle.std.proofs.Common.{◌≡◌, None, drop}
use Rattle.jc_types.specs.Breaks.{least}
use Rattle.jc_header_rules.specs.Places.{of_each}
use Rattle.jc_clashes.specs.Clashing.{class_clashes}
use Rattle.jc_clashes.proofs.stage.Compared.classes_broken.Given as goal

abbrev pub invariant-loop-number : goal.invariant-loop-number
invariant-loop-number l = least l.found (of_each (class_clashes l.self.table.now l.self.groups.now) l.number (drop l.number l.classes)) ≡ least None (of_each (class_clashes l.self.table.now l.self.groups.now) 0 l.classes)
