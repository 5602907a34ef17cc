use Rattle.std.proofs.Common.{◌≡◌}
use Rattle.jc_bridges_spec.specs.Bridging.{bridges_for}
use Rattle.jc_bridges.proofs.bridging.Scene.bridges.Given as goal

abbrev pub invariant-loop-i : goal.invariant-loop-i
invariant-loop-i l = l.out ≡ bridges_for l.self.table.now l.self.class l.i
