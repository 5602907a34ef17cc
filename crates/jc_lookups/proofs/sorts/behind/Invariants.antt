use Rattle.std.proofs.Common.{◌≡◌, drop}
use Rattle.jc_jvm.specs.Types.{behind_parameters}
use Rattle.jc_lookups.proofs.sorts.behind.Given as goal

-- what is left gives the same
abbrev pub invariant-loop-i : goal.invariant-loop-i
invariant-loop-i l = behind_parameters (drop l.i l.descriptor) ≡ behind_parameters l.descriptor
