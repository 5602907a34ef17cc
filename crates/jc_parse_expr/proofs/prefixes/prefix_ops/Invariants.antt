use Rattle.std.proofs.Common.{length}
use Rattle.jc_reading.specs.Reading.{any_number}
use Rattle.jc_reading.proofs.Turns.{Resumes}
use Rattle.jc_expr_laws.specs.LevelReading.{prefix_op_run}
use Rattle.jc_parse_expr.proofs.prefixes.prefix_ops.Given as goal

abbrev pub invariant-signs : goal.invariant-signs
invariant-signs l = Resumes (any_number prefix_op_run l.fn.tokens) l.ops l.left prefix_op_run l.rest

abbrev pub decreases-signs : goal.decreases-signs
decreases-signs l = length l.rest
