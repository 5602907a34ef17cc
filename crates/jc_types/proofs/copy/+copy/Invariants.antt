use Rattle.std.proofs.Common.{◌≡◌, take}
use Rattle.jc_types.proofs.copy.+copy.Given as goal

abbrev pub invariant-copy_args-loop-i : goal.invariant-copy_args-loop-i
invariant-copy_args-loop-i l = l.out ≡ take l.i l.args

abbrev pub invariant-copy_types-loop-i : goal.invariant-copy_types-loop-i
invariant-copy_types-loop-i l = l.out ≡ take l.i l.types
