use Rattle.std.proofs.Common.{◌≡◌, drop}
use Rattle.jc_types.specs.Breaks.{least}
use Rattle.jc_declares.specs.HeadBreaks.{of_each, twice_variable}
use Rattle.jc_name_rules.proofs.members.variables_broken.Given as goal

abbrev pub invariant-loop-number : goal.invariant-loop-number
invariant-loop-number l = least l.found (of_each (twice_variable l.declared.heads.now) l.number (drop l.number l.variables)) ≡ least l.initial.found (of_each (twice_variable l.declared.heads.now) 0 l.variables)
