use Rattle.std.proofs.Common.{◌≡◌, length}
use Rattle.jc_stmts_spec.specs.Courses.{is_key}
use Rattle.jc_stmts_wants.proofs.labels.is_key.Given as goal

abbrev pub invariant-loop-rest : goal.invariant-loop-rest
invariant-loop-rest l = is_key l.n l.rest ≡ is_key l.n l.fn.keys

abbrev pub decreases-loop-rest : goal.decreases-loop-rest
decreases-loop-rest l = length l.rest
