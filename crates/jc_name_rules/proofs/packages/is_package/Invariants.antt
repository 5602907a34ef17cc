use Rattle.std.proofs.Common.{◌≡◌, drop}
use Rattle.jc_declares.specs.declared.heads.UnitHead.{UnitHead}
use Rattle.jc_declares.specs.HeadBreaks.{some_in, is_within_package}
use Rattle.jc_name_rules.proofs.packages.is_package.Given as goal

abbrev pub invariant-loop-unit : goal.invariant-loop-unit
invariant-loop-unit l = some_in (λ (u : UnitHead). is_within_package l.«package» u.«package») (drop l.unit-index l.unit-items) ≡ some_in (λ (u : UnitHead). is_within_package l.«package» u.«package») l.unit-items
