use Rattle.std.proofs.Common.{◌≡◌, length}
use Rattle.jc_types.specs.Breaks.{least}
use Rattle.jc_stmts_spec.specs.Courses.{unrelated_to}
use Rattle.jc_stmts_wants.proofs.catching.unrelated_to.Given as goal

abbrev pub invariant-loop-rest : goal.invariant-loop-rest
invariant-loop-rest l = least l.least (unrelated_to l.clause.table.now l.clause.place l.ty l.rest) ≡ least l.fn.found (unrelated_to l.clause.table.now l.clause.place l.ty l.fn.types)

abbrev pub decreases-loop-rest : goal.decreases-loop-rest
decreases-loop-rest l = length l.rest
