use Rattle.std.proofs.Common.{◌≡◌, ◌++◌, length}
use Rattle.jc_exprs_known_fields.proofs.operators.push_units.Given as goal

abbrev pub invariant-loop-rest : goal.invariant-loop-rest
invariant-loop-rest l = l.out ++ l.rest ≡ l.initial.out ++ l.fn.units

abbrev pub decreases-loop-rest : goal.decreases-loop-rest
decreases-loop-rest l = length l.rest
