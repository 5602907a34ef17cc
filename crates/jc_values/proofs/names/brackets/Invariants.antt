use Rattle.std.proofs.Common.{◌≡◌, replicate, string_bytes}
use Rattle.jc_values.proofs.names.brackets.Given as goal

abbrev pub invariant-loop-i : goal.invariant-loop-i
invariant-loop-i l = string_bytes l.out ≡ replicate l.i 91
