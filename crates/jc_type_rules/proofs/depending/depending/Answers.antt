use Rattle.std.proofs.Common.{List, ℕ, length, subst, sym, ap, ◌∙◌}
use Rattle.jc_components.specs.Reach.{IsClosed}
use Rattle.jc_components.specs.Marks.{AreReached}
use Rattle.jc_type_rules.specs.Depending.{rows_below}
use Rattle.jc_type_rules.proofs.Rowed.{are_depending, rows_closed}
use Rattle.jc_type_rules.proofs.depending.depending.Goals as goal

pub on_cycles-requires : goal.on_cycles-requires
on_cycles-requires c = subst (λ (es : List (List ℕ)). IsClosed es) (sym (c.slice.ensures ∙ c.in_ok-rows.ensures)) (rows_closed c.args.table.now c.len.result)

pub returns : goal.returns
returns c =
    let T = c.args.table.now in
    are_depending T c.in_ok-marks.marks
    (subst (λ (es : List (List ℕ)). AreReached es c.in_ok-marks.marks (length es)) (c.slice.ensures ∙ c.in_ok-rows.ensures ∙ ap (λ n. rows_below T n n) c.len.ensures) c.in_ok-marks.ensures)
