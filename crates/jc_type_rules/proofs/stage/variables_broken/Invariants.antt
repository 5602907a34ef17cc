use Rattle.std.proofs.Common.{◌≡◌, drop}
use Rattle.jc_types.specs.Breaks.{least}
use Rattle.jc_header_rules.specs.Places.{of_each}
use Rattle.jc_header_rules.specs.Types.{variable_broken}
use Rattle.jc_type_rules.proofs.stage.variables_broken.Given as goal

abbrev pub invariant-loop-number : goal.invariant-loop-number
invariant-loop-number l = least l.found (of_each (variable_broken l.table) l.number (drop l.number l.variables)) ≡ least l.initial.found (of_each (variable_broken l.table) 0 l.variables)
