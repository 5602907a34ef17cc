use Rattle.std.proofs.Common.{◌≡◌}
use Rattle.jc_overriding.specs.Overriding.{standing_within}
use Rattle.jc_members.proofs.selecting.standing_within.Given as goal

abbrev pub invariant-loop-left : goal.invariant-loop-left
invariant-loop-left l = standing_within l.table l.left l.k l.m l.at ≡ standing_within l.table l.fn.steps l.k l.m l.fn.from

abbrev pub decreases-loop-left : goal.decreases-loop-left
decreases-loop-left l = l.left
