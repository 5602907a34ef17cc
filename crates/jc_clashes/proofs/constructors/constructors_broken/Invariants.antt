use Rattle.std.proofs.Common.{◌≡◌, drop}
use Rattle.jc_types.specs.Breaks.{least}
use Rattle.jc_header_rules.specs.Places.{of_each}
use Rattle.jc_clashes.specs.Constructors.{constructors_in}
use Rattle.jc_clashes.proofs.constructors.constructors_broken.Given as goal

abbrev pub invariant-loop-number : goal.invariant-loop-number
invariant-loop-number l = least l.found (of_each (constructors_in l.table) l.number (drop l.number l.classes)) ≡ least l.initial.found (of_each (constructors_in l.table) 0 l.classes)
