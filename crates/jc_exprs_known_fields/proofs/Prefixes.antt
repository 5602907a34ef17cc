-- Prefix operators from the last to the first.
use Rattle.std.proofs.Common.{◌≡◌, ℕ, ◌+◌, ◌-◌, ◌<◌, ◌≤◌, List, [], ◌∷◌, ◌++◌, length, get_or, take, Option, refl, sym, ap, ◌∙◌, arith}
use Rattle.std.proofs.lemmas.List.{take_more}
use Rattle.jc_types.specs.declared.constant.Constant.{Constant}
use Rattle.jc_types.specs.declared.constant.Op.{Op}
use Rattle.jc_exprs_parts_spec.specs.Constants.{from_some, prefixed_constant, prefixes}

pub prefixes_last : (os : List Op) (o : Op) (c : Option Constant) → prefixes (os ++ o ∷ []) c ≡ prefixes os (from_some c (prefixed_constant o))
prefixes_last [] o c = refl
prefixes_last (p ∷ os) o c = ap (λ (x : Option Constant). from_some x (prefixed_constant p)) (prefixes_last os o c)

pub prefixes_none : (c : Option Constant) → prefixes [] c ≡ c
prefixes_none c = refl

pub ruleset last_laws = (prefixes_last, prefixes_none)

-- one turn of the loop from the last operator to the first
pub prefixes_turn : (os : List Op) (n : ℕ) (d : Op) (c r : Option Constant) → 0 < n → n ≤ length os → r ≡ from_some c (prefixed_constant (get_or os (n - 1) d)) → prefixes (take (n - 1) os) r ≡ prefixes (take n os) c
prefixes_turn os n d c r some within made =
    let whole : n - 1 + 1 ≡ n = omega arith in
    let inside : n - 1 < length os = omega arith in
    ap (λ (x : Option Constant). prefixes (take (n - 1) os) x) made
    ∙ sym (prefixes_last (take (n - 1) os) (get_or os (n - 1) d) c)
    ∙ ap (λ (l : List Op). prefixes l c) (sym (take_more os (n - 1) d inside))
    ∙ ap (λ (m : ℕ). prefixes (take m os) c) whole
