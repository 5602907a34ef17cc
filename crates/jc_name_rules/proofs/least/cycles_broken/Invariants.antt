use Rattle.std.proofs.Common.{◌≡◌, drop}
use Rattle.jc_types.specs.Breaks.{least}
use Rattle.jc_declares.specs.HeadBreaks.{of_each}
use Rattle.jc_name_rules.specs.Cycles.{cycle_breaks}
use Rattle.jc_name_rules.proofs.least.cycles_broken.Given as goal

abbrev pub invariant-loop-number : goal.invariant-loop-number
invariant-loop-number l = least l.found (of_each (cycle_breaks l.marks) l.number (drop l.number l.classes)) ≡ least l.initial.found (of_each (cycle_breaks l.marks) 0 l.classes)
