use Rattle.std.proofs.Common.{◌≡◌, ◌++◌, length}
use Rattle.jc_infer.specs.Steps.{by_all_bounds}
use Rattle.jc_infer.proofs.late.by_all_bounds.Given as goal

abbrev pub invariant-loop-rest : goal.invariant-loop-rest
invariant-loop-rest l = l.out ++ by_all_bounds l.table l.env l.left l.vars l.by l.rest ≡ by_all_bounds l.table l.env l.left l.vars l.by l.parameters

abbrev pub decreases-loop-rest : goal.decreases-loop-rest
decreases-loop-rest l = length l.rest
