-- One method further, beside marks.
use Rattle.std.proofs.Common.{◌≡◌, ◌-◌, ◌≤◌, Bool, Option, List, [], cond, length, take, drop, get_or, sym, ap, ◌∙◌}
use Rattle.jc_rules.specs.declared.rule.Place.{Place}
use Rattle.jc_rules.specs.declared.rule.Refusal.{Refusal}
use Rattle.jc_types.specs.declared.ids.ClassId.{ClassId}
use Rattle.jc_types.specs.declared.table.Table.{Table}
use Rattle.jc_types.specs.Breaks.{least}
use Rattle.jc_types.proofs.Least.{least_append}
use Rattle.jc_header_rules.proofs.Turning.{left_over}
use Rattle.jc_clashes.specs.declared.shapes.Shape.{Shape}
use Rattle.jc_clashes.specs.Clashing.{beside_broken, pair_broken}
use Rattle.jc_clashes.specs.Marks.{behind_first, first_mark}

module _ (T : Table) (k : ClassId) (place : Place) (s : Shape) where
  pub beside_turn : (marks next : List Bool) (found then : Option Refusal) (us : List Shape) (u d : Shape) → 1 ≤ length us → u ≡ get_or us 0 d → next ≡ behind_first marks
      → then ≡ least found (cond (first_mark marks) [] (pair_broken T k place s u)) → least then (beside_broken T k place s next (take (length us - 1) (drop 1 us))) ≡ least found (beside_broken T k place s marks us)
  beside_turn marks next found then us u d le is e f =
      let left = take (length us - 1) (drop 1 us) in
      let own = cond (first_mark marks) [] (pair_broken T k place s u) in
      ap (λ o. least o (beside_broken T k place s next left)) f ∙ ap (λ bs. least (least found own) (beside_broken T k place s bs left)) e
      ∙ sym (least_append found own (beside_broken T k place s (behind_first marks) left)) ∙ ap (λ ts. least found (beside_broken T k place s marks ts)) (sym (left_over us u d le is))
