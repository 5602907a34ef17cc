-- One constructor further.
use Rattle.std.proofs.Common.{◌≡◌, ◌-◌, ◌≤◌, Option, List, ◌++◌, length, take, drop, get_or, sym, ap, ◌∙◌}
use Rattle.jc_rules.specs.declared.rule.Place.{Place}
use Rattle.jc_rules.specs.declared.rule.Refusal.{Refusal}
use Rattle.jc_types.specs.declared.form.Ty.{Ty}
use Rattle.jc_types.specs.declared.ids.MethodId.{MethodId}
use Rattle.jc_types.specs.declared.table.Table.{Table}
use Rattle.jc_types.specs.Accessors.{method_place_of}
use Rattle.jc_types.specs.Breaks.{least}
use Rattle.jc_types.proofs.Least.{least_append}
use Rattle.jc_header_rules.specs.Clashes.{place_or}
use Rattle.jc_header_rules.specs.Places.{broken_if}
use Rattle.jc_header_rules.proofs.Turning.{left_over}
use Rattle.jc_clashes.specs.Constructors.{constructors_from, is_repeated, with_erasure}

abbrev own_break : Table → Place → List (List Ty) → MethodId → List Refusal
own_break T place earlier m = broken_if (is_repeated T earlier m) 801 (place_or place (method_place_of T m))

pub constructor_turn : (T : Table) (place : Place) (earlier more : List (List Ty)) (found next : Option Refusal) (ms : List MethodId) (m d : MethodId) → 1 ≤ length ms → m ≡ get_or ms 0 d
    → more ≡ with_erasure T earlier m → next ≡ least found (own_break T place earlier m)
    → least next (constructors_from T place more (take (length ms - 1) (drop 1 ms))) ≡ least found (constructors_from T place earlier ms)
constructor_turn T place earlier more found next ms m d le is grown e =
    let left = take (length ms - 1) (drop 1 ms) in
    ap (λ n. least n (constructors_from T place more left)) e ∙ sym (least_append found (own_break T place earlier m) (constructors_from T place more left))
    ∙ ap (λ es. least found (own_break T place earlier m ++ constructors_from T place es left)) grown
    ∙ ap (λ ns. least found (constructors_from T place earlier ns)) (sym (left_over ms m d le is))
