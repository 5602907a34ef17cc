use Rattle.std.proofs.Common.{◌≡◌, IfOk, sym, subst}
use Rattle.jc_types.specs.declared.declarations.FieldValue.{FieldValue}
use Rattle.jc_exprs_parts_spec.specs.Constants.{field_value}
use Rattle.jc_exprs_known_fields.specs.Programs.{heads_in, knowledge_in}
use Rattle.jc_exprs_known_fields.proofs.valuing.field_value.Goals as goal

pub returns-in-Initialiser : goal.returns-in-Initialiser
returns-in-Initialiser c =
    let p = c.args.program.now in
    subst (λ (v : FieldValue). IfOk c.initialised.result (λ r. r ≡ field_value p.table.now (heads_in p) (knowledge_in p) c.args.constants.now c.args.field.now v)) (sym c.in-Initialiser.is) c.initialised.ensures
