use Rattle.std.proofs.Common.{◌≡◌, None, replicate}
use Rattle.jc_bodies.proofs.checking.nothing_typed.Given as goal

abbrev pub invariant-loop-method : goal.invariant-loop-method
invariant-loop-method l = l.slots.items ≡ replicate l._method None
