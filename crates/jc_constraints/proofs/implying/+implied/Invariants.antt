use Rattle.std.proofs.Common.{◌≡◌, map, take}
use Rattle.jc_constraints.specs.Constraints.{beside, implied_by_arg}
use Rattle.jc_constraints.proofs.implying.+implied.Given as goal

abbrev pub invariant-implied_beside-loop-i : goal.invariant-implied_beside-loop-i
invariant-implied_beside-loop-i l = l.out ≡ beside (map (implied_by_arg l.table l.env l.unknown) (take l.i l.formals)) l.standing l.actuals
