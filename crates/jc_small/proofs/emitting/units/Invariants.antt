use Rattle.std.proofs.Common.{◌≡◌, take}
use Rattle.jc_small.proofs.emitting.units.Given as goal

abbrev pub invariant-loop-b : goal.invariant-loop-b
invariant-loop-b l = l.units ≡ take l.b-index l.text
