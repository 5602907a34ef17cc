use Rattle.std.proofs.Common.{◌≡◌, length}
use Rattle.jc_types.specs.Breaks.{least}
use Rattle.jc_stmts_spec.specs.Courses.{all_unrelated}
use Rattle.jc_stmts_wants.proofs.catching.all_unrelated.Given as goal

abbrev pub invariant-loop-rest : goal.invariant-loop-rest
invariant-loop-rest l = least l.least (all_unrelated l.clause.table.now l.clause.place l.rest) ≡ least l.fn.found (all_unrelated l.clause.table.now l.clause.place l.fn.types)

abbrev pub decreases-loop-rest : goal.decreases-loop-rest
decreases-loop-rest l = length l.rest
