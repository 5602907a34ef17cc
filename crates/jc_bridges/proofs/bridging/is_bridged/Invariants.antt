use Rattle.std.proofs.Common.{◌≡◌, length}
use Rattle.jc_bridges_spec.specs.Bridging.{is_bridged}
use Rattle.jc_bridges.proofs.bridging.is_bridged.Given as goal

abbrev pub invariant-loop-rest : goal.invariant-loop-rest
invariant-loop-rest l = is_bridged l.table l.m l.rest ≡ is_bridged l.table l.m l.fn.list

abbrev pub decreases-loop-rest : goal.decreases-loop-rest
decreases-loop-rest l = length l.rest
