use Rattle.std.proofs.Common.{◌≡◌, ◌++◌, length, map}
use Rattle.jc_clashes.specs.Spreading.{erasures_within}
use Rattle.jc_clashes.proofs.shapes.own_erasures.Given as goal

abbrev pub invariant-loop-rest : goal.invariant-loop-rest
invariant-loop-rest l = l.out ++ map (erasures_within l.table l.ids 0) l.rest ≡ map (erasures_within l.table l.ids 0) l.ids

abbrev pub decreases-loop-rest : goal.decreases-loop-rest
decreases-loop-rest l = length l.rest
