use Rattle.std.proofs.Common.{take}
use Rattle.jc_name_rules.specs.Singles.{AreOfUnits}
use Rattle.jc_name_rules.proofs.least.all_singles.Given as goal

abbrev pub invariant-loop-unit : goal.invariant-loop-unit
invariant-loop-unit l = AreOfUnits l.declared.heads.now (take l.unit-index l.unit-items) l.all
