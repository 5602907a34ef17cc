use Rattle.std.proofs.Common.{◌≡◌, List, Option, sym, ap, ◌∙◌}
use Rattle.jc_types.specs.declared.constant.Constant.{Constant}
use Rattle.jc_exprs_parts_spec.specs.Constants.{field_values}
use Rattle.jc_exprs_known_fields.specs.Programs.{heads_in, knowledge_in}
use Rattle.jc_exprs_known_fields.proofs.Settled.{settled}
use Rattle.jc_exprs_known_fields.proofs.constants.constants_of.Goals as goal

pub returns-then-same_values : goal.returns-then-same_values
returns-then-same_values c =
    let p = c.args.program.now in
    let cs = c.in_ok-values.values.items in
    let same : c.as_slice-3.result.now ≡ c.slice.result.now = c.same_values.ensures c.if-same_values.true in
    let again : cs ≡ field_values p.table.now (heads_in p) (knowledge_in p) cs p.table.now.fields =
    sym c.as_slice-3.ensures.value ∙ same ∙ c.slice.ensures ∙ c.in_ok-again.ensures
    ∙ ap (λ (x : List (Option Constant)). field_values p.table.now (heads_in p) (knowledge_in p) x p.table.now.fields) c.as_slice-2.ensures.value in
    c.of.ensures ∙ settled p.table.now (heads_in p) (knowledge_in p) cs again c.in_ok-values.ensures.count c.in_ok-values.ensures.below
