-- Types by places.
use Rattle.std.proofs.Common.{◌≡◌, ℕ, ◌+◌, ◌-◌, ◌≤◌, false, List, [], ◌++◌, length, take, drop, append_assoc, length-drop, length-append, sym, ap, ◌∙◌, subst, arith}
use Rattle.std.proofs.lemmas.List.{take-append-drop}
use Rattle.std.proofs.Math.Seq.{drop-append_seam}
use Rattle.std.proofs.lemmas.Bool.{leb-true, le-leb}
use Rattle.jc_lexer.specs.declared.token.Token.{Token}
use Rattle.jc_tree.specs.declared.types.TypeTree.{TypeTree}
use Rattle.jc_tree.specs.Heights.{type_height}
use Rattle.jc_grammar.specs.Types.{type_tokens}
use Rattle.jc_grammar.specs.Spelling.{SpellsType}
use Rattle.jc_reading.proofs.Steps.{reach}
use Rattle.jc_reading.proofs.Forms.{Stands}
use Rattle.jc_reading.specs.Reading.{Found, Stopped}
use Rattle.jc_reading.proofs.Places.{told_front, takes_front, seen, farthest, nothing, bounds, bound, is_reach}
use Rattle.jc_parse_type.specs.TypeAnswers.{TypeStands, IsTypeReach}
use Rattle.jc_parse_type.specs.TypeReading.{type_run}
use Rattle.jc_parse_type.proofs.TypeForms.{type_form, type_laws}

pub to_spelled : (h : ℕ) (ts : List Token) (ty : TypeTree) (r : List Token) → Stands (type_form h) ts ty r → SpellsType h ts ty r
to_spelled h ts ty r s =
    let w = told_front false (type_tokens ty []) ts r s.0 in (leb-true (type_height ty) h s.1, w.0, w.1, w.2)

pub from_spelled : (h : ℕ) (ts : List Token) (ty : TypeTree) (r : List Token) → SpellsType h ts ty r → Stands (type_form h) ts ty r
from_spelled h ts ty r p = (takes_front false (type_tokens ty []) ts p.1 r p.2 p.3, le-leb (type_height ty) h p.0)

abbrev pub top : ℕ
top = 200

-- what is found at a place

module _ (whole rest : List Token) (at : ℕ) (in_range : at ≤ length whole) (back : rest ≡ drop at whole) where
  rest_length : length rest ≡ length whole - at
  rest_length = ap length back ∙ length-drop at whole

  tail_is : (r front : List Token) → rest ≡ front ++ r → drop (length whole - length r) whole ≡ r
  tail_is r front e =
      let pre = take at whole ++ front in
      let w : whole ≡ pre ++ r = sym (take-append-drop at whole) ∙ ap (λ (l : List Token). take at whole ++ l) (sym back ∙ e) ∙ sym (append_assoc (take at whole) front r) in
      let n : length whole - length r ≡ length pre = omega (arith, ap length w, length-append pre r) in
      ap (λ k. drop k whole) n ∙ ap (drop (length pre)) w ∙ drop-append_seam pre r

  spells_here : (ty : TypeTree) (r : List Token) → SpellsType top (drop at whole) ty r → SpellsType top rest ty r
  spells_here ty r p = subst (λ (v : List Token). SpellsType top v ty r) (sym back) p

  pub found_here : (ty : TypeTree) (r : List Token) (l : ℕ) → type_run top rest ≡ Found ty r l → TypeStands whole at ty (length whole - length r)
  found_here ty r l e =
      let p = seen TypeTree (type_form top) (type_laws 199) (SpellsType top) (to_spelled top) (from_spelled top) rest ty r l e in
      subst (λ (v : List Token). SpellsType top (drop at whole) ty v) (sym (tail_is r p.1 p.2)) (subst (λ (v : List Token). SpellsType top v ty r) back p)

  pub bounds_here : (ty : TypeTree) (r : List Token) (l : ℕ) → type_run top rest ≡ Found ty r l → (length r ≤ length whole) × (l ≤ length whole)
  bounds_here ty r l e =
      let b = bounds TypeTree (type_form top) (type_laws 199) (SpellsType top) (to_spelled top) (from_spelled top) rest ty r l e in
      (omega (arith, b.0, b.1, rest_length), omega (arith, b.0, b.1, rest_length))

  pub bound_here : (l : ℕ) → type_run top rest ≡ Stopped l → l ≤ length whole
  bound_here l e = let b = bound TypeTree (type_form top) (type_laws 199) (SpellsType top) (to_spelled top) (from_spelled top) rest l e in omega (arith, b, rest_length)

  pub longest_here : (ty : TypeTree) (r : List Token) (l : ℕ) → type_run top rest ≡ Found ty r l → (other : TypeTree) (s : List Token) → SpellsType top (drop at whole) other s → length whole ≤ (length whole - length r) + length s
  longest_here ty r l e other s p =
      let n = farthest TypeTree (type_form top) (type_laws 199) (SpellsType top) (to_spelled top) (from_spelled top) rest ty r l e other s (spells_here other s p) in
      omega (arith, n)

  pub reach_here : (ty : TypeTree) (r : List Token) (l : ℕ) → type_run top rest ≡ Found ty r l → IsTypeReach whole at (length whole - l)
  reach_here ty r l e =
      let b = bounds TypeTree (type_form top) (type_laws 199) (SpellsType top) (to_spelled top) (from_spelled top) rest ty r l e in
      let le : l ≤ length rest = omega (arith, b.0, b.1) in
      is_reach TypeTree (type_form top) (type_laws 199) (SpellsType top) (to_spelled top) (from_spelled top) whole rest at in_range back l (ap reach e) le

  pub none_here : (l : ℕ) → type_run top rest ≡ Stopped l → IsTypeReach whole at (length whole - l) × ((ty : TypeTree) (s : List Token) → SpellsType top (drop at whole) ty s → ⊥)
  none_here l e =
      let b = bound TypeTree (type_form top) (type_laws 199) (SpellsType top) (to_spelled top) (from_spelled top) rest l e in (
        is_reach TypeTree (type_form top) (type_laws 199) (SpellsType top) (to_spelled top) (from_spelled top) whole rest at in_range back l (ap reach e) b,
        λ ty s p. nothing TypeTree (type_form top) (type_laws 199) (SpellsType top) (to_spelled top) (from_spelled top) rest l e ty s (spells_here ty s p),
      )
