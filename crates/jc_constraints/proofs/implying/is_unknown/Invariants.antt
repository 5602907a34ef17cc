use Rattle.std.proofs.Common.{◌≡◌, length}
use Rattle.jc_constraints.specs.Constraints.{is_unknown}
use Rattle.jc_constraints.proofs.implying.is_unknown.Given as goal

abbrev pub invariant-loop-rest : goal.invariant-loop-rest
invariant-loop-rest l = is_unknown l.rest l.v ≡ is_unknown l.fn.unknown l.v

abbrev pub decreases-loop-rest : goal.decreases-loop-rest
decreases-loop-rest l = length l.rest
