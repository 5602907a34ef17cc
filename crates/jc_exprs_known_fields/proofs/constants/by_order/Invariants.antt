use Rattle.std.proofs.Common.{◌≡◌, length}
use Rattle.jc_exprs_parts_spec.specs.Constants.{constants_within}
use Rattle.jc_exprs_known_fields.specs.Programs.{heads_in, knowledge_in}
use Rattle.jc_exprs_known_fields.specs.Rounds.{Below}
use Rattle.jc_exprs_known_fields.proofs.constants.by_order.Given as goal

abbrev pub invariant-loop-step : goal.invariant-loop-step
invariant-loop-step l = record {
  count : length l.values.items ≡ length l.program.table.now.fields;
  below : Below l.values.items (constants_within l.program.table.now (heads_in l.program) (knowledge_in l.program) l.step);
}
