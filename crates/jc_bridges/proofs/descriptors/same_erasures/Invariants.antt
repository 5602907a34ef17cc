use Rattle.std.proofs.Common.{◌≡◌, length}
use Rattle.jc_bridges_spec.specs.Descriptors.{same_erasures}
use Rattle.jc_bridges.proofs.descriptors.same_erasures.Given as goal

abbrev pub invariant-loop-rest : goal.invariant-loop-rest
invariant-loop-rest l = same_erasures l.table l.rest l.left ≡ same_erasures l.table l.fn.some l.fn.others

abbrev pub decreases-loop-rest : goal.decreases-loop-rest
decreases-loop-rest l = length l.rest
