use Rattle.std.proofs.Common.{◌≡◌, replicate}
use Rattle.jc_infer.proofs.stretching.repeated.Given as goal

abbrev pub invariant-loop-i : goal.invariant-loop-i
invariant-loop-i l = l.list ≡ replicate l.i l.t
