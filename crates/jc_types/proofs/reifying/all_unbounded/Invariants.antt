use Rattle.std.proofs.Common.{◌≡◌, take, map, true}
use Rattle.jc_types.specs.Reifying.{all_true, is_unbounded}
use Rattle.jc_types.proofs.reifying.all_unbounded.Given as goal

abbrev pub invariant-loop-i : goal.invariant-loop-i
invariant-loop-i l = all_true (map is_unbounded (take l.i l.args)) ≡ true
