use Rattle.std.proofs.Common.{List, Option, ap, ◌∙◌}
use Rattle.jc_types.specs.declared.constant.Constant.{Constant}
use Rattle.jc_exprs_parts_spec.specs.Constants.{field_value}
use Rattle.jc_exprs_known_fields.specs.Programs.{heads_in, knowledge_in}
use Rattle.jc_exprs_known_fields.proofs.Settled.{put_raised}
use Rattle.jc_exprs_known_fields.proofs.constants.know.Goals as goal

pub returns-clause-raised : goal.returns-clause-raised
returns-clause-raised c =
    let p = c.args.program.now in
    let f = c.in-Some.field.now in
    put_raised p.table.now (heads_in p) (knowledge_in p) c.args.values.now.items c.put.new.values.items c.args.number f c.in_ok-value.value c.in-Some.ensures.value
    (c.in_ok-value.ensures ∙ ap (λ (x : List (Option Constant)). field_value p.table.now (heads_in p) (knowledge_in p) x f f.value) c.as_slice.ensures.value)
    c.put.ensures
