use Rattle.std.proofs.Common.{◌≡◌, ◌++◌, length}
use Rattle.jc_exprs_parts_spec.specs.Constants.{field_values}
use Rattle.jc_exprs_known_fields.specs.Programs.{heads_in, knowledge_in}
use Rattle.jc_exprs_known_fields.proofs.valuing.field_values.Given as goal

abbrev pub invariant-loop-rest : goal.invariant-loop-rest
invariant-loop-rest l =
    l.values ++ field_values l.program.table.now (heads_in l.program) (knowledge_in l.program) l.constants l.rest
    ≡ field_values l.program.table.now (heads_in l.program) (knowledge_in l.program) l.constants l.program.table.now.fields

abbrev pub decreases-loop-rest : goal.decreases-loop-rest
decreases-loop-rest l = length l.rest
