use Rattle.std.proofs.Common.{◌≡◌, ◌+◌, length}
use Rattle.jc_types.specs.Substitution.{is_row_from}
use Rattle.jc_types.proofs.rows.follows.Given as goal

abbrev pub invariant-loop-rest : goal.invariant-loop-rest
invariant-loop-rest l = is_row_from (l.last + 1) l.rest ≡ is_row_from (l.fn.last + 1) l.fn.vars

abbrev pub decreases-loop-rest : goal.decreases-loop-rest
decreases-loop-rest l = length l.rest
