use Rattle.std.proofs.Common.{◌≡◌, drop}
use Rattle.jc_types.specs.Breaks.{least}
use Rattle.jc_declares.specs.HeadBreaks.{of_each, unit_breaks}
use Rattle.jc_name_rules.proofs.least.units_broken.Given as goal

abbrev pub invariant-loop-unit : goal.invariant-loop-unit
invariant-loop-unit l = least l.found (of_each (unit_breaks l.declared.heads.now) l.unit-index (drop l.unit-index l.unit-items)) ≡ least l.initial.found (of_each (unit_breaks l.declared.heads.now) 0 l.unit-items)
