use Rattle.std.proofs.Common.{◌≡◌, ◌++◌, length}
use Rattle.jc_type_rules.specs.Depending.{variables_below}
use Rattle.jc_type_rules.proofs.depending.variables_below.Given as goal

abbrev pub invariant-loop-rest : goal.invariant-loop-rest
invariant-loop-rest l = l.out ++ variables_below l.count l.rest ≡ variables_below l.count l.bounds

abbrev pub decreases-loop-rest : goal.decreases-loop-rest
decreases-loop-rest l = length l.rest
