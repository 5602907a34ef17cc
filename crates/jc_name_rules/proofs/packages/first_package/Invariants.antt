use Rattle.std.proofs.Common.{◌≡◌, drop}
use Rattle.jc_declares.specs.HeadBreaks.{first_package}
use Rattle.jc_name_rules.proofs.packages.first_package.Given as goal

abbrev pub invariant-loop-unit : goal.invariant-loop-unit
invariant-loop-unit l = first_package (drop l.unit-index l.units) ≡ first_package l.units
