use Rattle.std.proofs.Common.{length}
use Rattle.jc_exprs_known_fields.proofs.ordering.rows.Given as goal

abbrev pub decreases-loop-rest : goal.decreases-loop-rest
decreases-loop-rest l = length l.rest
