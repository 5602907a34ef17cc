use Rattle.std.proofs.Common.{◌≡◌, length}
use Rattle.jc_bridges_spec.specs.Bridging.{leads_among}
use Rattle.jc_bridges.proofs.bridging.Scene.leads_among.Given as goal

abbrev pub invariant-loop-rest : goal.invariant-loop-rest
invariant-loop-rest l = leads_among l.self.table.now l.self.class l.c l.m l.own l.rest ≡ leads_among l.self.table.now l.self.class l.c l.m l.own l.fn.ids

abbrev pub decreases-loop-rest : goal.decreases-loop-rest
decreases-loop-rest l = length l.rest
