use Rattle.std.proofs.Common.{◌≡◌, take, map}
use Rattle.jc_lub.specs.Lubs.{stripped}
use Rattle.jc_lub.proofs.arrays.all_stripped.Given as goal

abbrev pub invariant-loop-i : goal.invariant-loop-i
invariant-loop-i l = l.out ≡ map (stripped l.dims) (take l.i l.types)
