use Rattle.std.proofs.Common.{◌≡◌, take, map}
use Rattle.jc_overriding.specs.Signatures.{erased_in}
use Rattle.jc_members.proofs.signatures.erased_params.Given as goal

abbrev pub invariant-loop-i : goal.invariant-loop-i
invariant-loop-i l = l.out ≡ map (erased_in l.table l.b) (take l.i l.params)
