use Rattle.std.proofs.Common.{◌≡◌, false, length}
use Rattle.jc_exprs_parts_spec.specs.Senses.{field_round}
use Rattle.jc_exprs_parts_spec.specs.Worlds.{class_ids}
use Rattle.jc_exprs_senses.proofs.senses.field_outside.Given as goal

abbrev pub invariant-loop-rest : goal.invariant-loop-rest
invariant-loop-rest l = field_round l.table l.name false (class_ids l.rest) ≡ field_round l.table l.name false (class_ids l.fn.classes)

abbrev pub decreases-loop-rest : goal.decreases-loop-rest
decreases-loop-rest l = length l.rest
