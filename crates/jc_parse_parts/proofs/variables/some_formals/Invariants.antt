use Rattle.std.proofs.Common.{◌≤◌, length}
use Rattle.jc_part_laws.specs.PartReading.{formal_run}
use Rattle.jc_expr_laws.specs.ExprReading.{exprs}
use Rattle.jc_parse_parts.specs.Parts.{some_formals_run}
use Rattle.jc_parse_parts.proofs.FormalSteps.{Continues}
use Rattle.jc_parse_parts.proofs.variables.some_formals.Given as goal

abbrev pub invariant-commas : goal.invariant-commas
invariant-commas l = Continues l.last (formal_run exprs l.height) (some_formals_run l.height l.fn.tokens) l.formals l.left l.rest × (length l.rest ≤ length l.fn.tokens)

abbrev pub decreases-commas : goal.decreases-commas
decreases-commas l = length l.rest
