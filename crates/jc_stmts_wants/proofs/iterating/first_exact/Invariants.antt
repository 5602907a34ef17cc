use Rattle.std.proofs.Common.{◌≡◌, length}
use Rattle.jc_judge.specs.Views.{exacts}
use Rattle.jc_stmts_spec.specs.Courses.{first_exact}
use Rattle.jc_stmts_wants.proofs.iterating.first_exact.Given as goal

abbrev pub invariant-loop-rest : goal.invariant-loop-rest
invariant-loop-rest l = first_exact (exacts l.rest) ≡ first_exact (exacts l.fn.args)

abbrev pub decreases-loop-rest : goal.decreases-loop-rest
decreases-loop-rest l = length l.rest
