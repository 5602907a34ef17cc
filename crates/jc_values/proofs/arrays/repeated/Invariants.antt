use Rattle.std.proofs.Common.{◌≡◌, replicate}
use Rattle.jc_values.proofs.arrays.repeated.Given as goal

abbrev pub invariant-loop-i : goal.invariant-loop-i
invariant-loop-i l = l.out ≡ replicate l.i l.value
