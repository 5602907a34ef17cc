use Rattle.std.proofs.Common.{◌≡◌, take}
use Rattle.jc_overriding.specs.Viewing.{bounds_with}
use Rattle.jc_members.proofs.viewing.bounds_with.Given as goal

abbrev pub invariant-loop-i : goal.invariant-loop-i
invariant-loop-i l = l.out ≡ bounds_with l.table l.vars l.by (take l.i l.list)
