use Rattle.std.proofs.Common.{◌≡◌, ◌++◌, length}
use Rattle.jc_exprs_parts_spec.specs.Worlds.{class_ids}
use Rattle.jc_exprs_worlds.proofs.asking.push_classes.Given as goal

abbrev pub invariant-loop-rest : goal.invariant-loop-rest
invariant-loop-rest l = l.out ++ class_ids l.rest ≡ l.fn.out ++ class_ids l.fn.classes

abbrev pub decreases-loop-rest : goal.decreases-loop-rest
decreases-loop-rest l = length l.rest
