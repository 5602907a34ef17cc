use Rattle.std.proofs.Common.{◌≡◌, ◌++◌, take}
use Rattle.jc_jvm.specs.Types.{dotted}
use Rattle.jc_lookups.proofs.names.add_dotted.Given as goal

abbrev pub invariant-loop-unit : goal.invariant-loop-unit
invariant-loop-unit l = l.found ≡ l.initial.found ++ dotted (take l.unit-index l.name)
