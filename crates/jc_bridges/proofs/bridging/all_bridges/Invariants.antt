use Rattle.std.proofs.Common.{◌≡◌}
use Rattle.jc_bridges.specs.All.{lists_for}
use Rattle.jc_bridges.proofs.bridging.all_bridges.Given as goal

abbrev pub invariant-loop-i : goal.invariant-loop-i
invariant-loop-i l = l.out ≡ lists_for l.table l.i
