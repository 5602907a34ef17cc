use Rattle.std.proofs.Common.{◌≡◌}
use Rattle.jc_exprs_parts_spec.specs.Constants.{constants_within}
use Rattle.jc_exprs_known_fields.specs.Programs.{heads_in, knowledge_in}
use Rattle.jc_exprs_known_fields.proofs.constants.by_rounds.Given as goal

abbrev pub invariant-loop-round : goal.invariant-loop-round
invariant-loop-round l = l.values ≡ constants_within l.program.table.now (heads_in l.program) (knowledge_in l.program) l._round
