use Rattle.std.proofs.Common.{◌≡◌, length}
use Rattle.jc_stmts_spec.specs.Courses.{all_classes}
use Rattle.jc_stmts_wants.proofs.catching.all_classes.Given as goal

abbrev pub invariant-loop-rest : goal.invariant-loop-rest
invariant-loop-rest l = all_classes l.rest ≡ all_classes l.fn.types

abbrev pub decreases-loop-rest : goal.decreases-loop-rest
decreases-loop-rest l = length l.rest
