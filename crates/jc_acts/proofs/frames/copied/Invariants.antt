use Rattle.std.proofs.Common.{◌≡◌, take}
use Rattle.jc_acts.proofs.frames.copied.Given as goal

abbrev pub invariant-loop-i : goal.invariant-loop-i
invariant-loop-i l = l.out ≡ take l.i l.values
