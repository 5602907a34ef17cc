use Rattle.std.proofs.Common.{◌≡◌, take}
use Rattle.jc_overriding.specs.Signatures.{variables}
use Rattle.jc_members.proofs.adapting.variables.Given as goal

abbrev pub invariant-loop-i : goal.invariant-loop-i
invariant-loop-i l = l.out ≡ variables (take l.i l.vars)
