use Rattle.std.proofs.Common.{◌≡◌, length}
use Rattle.jc_exprs_nodes_spec.specs.Typeds.{has_variable}
use Rattle.jc_exprs_settling.proofs.opening.has_variable.Given as goal

abbrev pub invariant-loop-rest : goal.invariant-loop-rest
invariant-loop-rest l = has_variable l.judging.table.now l.judging.env.now.bounds l.rest ≡ has_variable l.judging.table.now l.judging.env.now.bounds l.fn.types

abbrev pub decreases-loop-rest : goal.decreases-loop-rest
decreases-loop-rest l = length l.rest
