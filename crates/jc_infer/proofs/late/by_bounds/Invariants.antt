use Rattle.std.proofs.Common.{◌≡◌, ◌++◌, length}
use Rattle.jc_infer.specs.Steps.{by_bounds}
use Rattle.jc_infer.proofs.late.by_bounds.Given as goal

abbrev pub invariant-loop-rest : goal.invariant-loop-rest
invariant-loop-rest l = l.out ++ by_bounds l.table l.env l.left l.vars l.by l.p.variable l.p.early l.rest ≡ by_bounds l.table l.env l.left l.vars l.by l.p.variable l.p.early l.p.bounds

abbrev pub decreases-loop-rest : goal.decreases-loop-rest
decreases-loop-rest l = length l.rest
