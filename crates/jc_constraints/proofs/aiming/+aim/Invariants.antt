use Rattle.std.proofs.Common.{◌≡◌, map, take}
use Rattle.jc_constraints.specs.Targets.{aims_beside, with_aim}
use Rattle.jc_constraints.proofs.aiming.+aim.Given as goal

abbrev pub invariant-aimed_beside-loop-i : goal.invariant-aimed_beside-loop-i
invariant-aimed_beside-loop-i l = l.out ≡ aims_beside (map (with_aim l.table l.env l.unknown) (take l.i l.targets)) l.formals
