use Rattle.std.proofs.Common.{◌≡◌, None, replicate}
use Rattle.jc_settling.proofs.settling.nothing_known.Given as goal

abbrev pub invariant-loop-class : goal.invariant-loop-class
invariant-loop-class l = l.known.items ≡ replicate l._class None
