use Rattle.std.proofs.Common.{◌≡◌, map, take}
use Rattle.jc_resolve_sites.specs.Above.{above, above_in_arg, greatest}
use Rattle.jc_resolve_sites.proofs.above.+above.Given as goal

abbrev pub invariant-above_args-loop-i : goal.invariant-above_args-loop-i
invariant-above_args-loop-i l = l.most ≡ greatest (map above_in_arg (take l.i l.list))

abbrev pub invariant-above_types-loop-i : goal.invariant-above_types-loop-i
invariant-above_types-loop-i l = l.most ≡ greatest (map above (take l.i l.list))
