use Rattle.std.proofs.Common.{◌≡◌, ◌++◌, drop}
use Rattle.jc_infer.specs.Steps.{standing_so}
use Rattle.jc_infer.proofs.collecting.standing_so.Given as goal

abbrev pub invariant-loop-i : goal.invariant-loop-i
invariant-loop-i l = l.list ++ standing_so l.v l.standing (drop l.i-index l.implied) ≡ standing_so l.v l.standing l.implied
