-- Expressions by places.
use Rattle.std.proofs.Common.{◌≡◌, ℕ, ◌+◌, ◌-◌, ◌≤◌, false, List, [], ◌++◌, length, take, drop, append_assoc, length-drop, length-append, refl, sym, ap, ◌∙◌, subst, arith}
use Rattle.std.proofs.lemmas.List.{append-nil, take-append-drop, append_cancel_right}
use Rattle.std.proofs.Math.Seq.{drop-append_seam}
use Rattle.std.proofs.lemmas.Bool.{and_parts, and_from, leb-true, le-leb}
use Rattle.std.specs.Prelude.{nat_le}
use Rattle.jc_lexer.specs.declared.token.Token.{Token}
use Rattle.jc_tree.specs.declared.expression.Expr.{Expr}
use Rattle.jc_tree.specs.Heights.{expr_height}
use Rattle.jc_grammar.specs.Expressions.{expr_tokens}
use Rattle.jc_grammar.specs.Shapes.{is_expr}
use Rattle.jc_grammar.specs.Spelling.{SpellsExpr}
use Rattle.jc_reading.proofs.Steps.{IsFound, reach}
use Rattle.jc_reading.proofs.Forms.{Form, Lawful, Stands}
use Rattle.jc_reading.proofs.Coded.{formed}
use Rattle.jc_reading.specs.Reading.{Read, Found, Stopped}
use Rattle.jc_reading.proofs.Places.{told_front, takes_front, seen, farthest, nothing, bounds, bound, is_reach}
use Rattle.jc_part_laws.proofs.ExprForms.{expr_coded}
use Rattle.jc_expr_laws.specs.ExprReading.{exprs}
use Rattle.jc_expr_laws.specs.ExprAnswers.{ExprStands, IsOnlyExpr, IsExprReach}
use Rattle.jc_expr_laws.proofs.ExprWhole.{whole_law}

pub to_spelled : (h : ℕ) (ts : List Token) (e : Expr) (r : List Token) → Stands (formed (expr_coded exprs h)) ts e r → SpellsExpr h ts e r
to_spelled h ts e r s =
    let w = told_front false (expr_tokens e []) ts r s.0 in
    let f = and_parts (nat_le (expr_height e) h) (is_expr e) s.1 in
    (leb-true (expr_height e) h f.0, f.1, w.0, w.1, w.2)

pub from_spelled : (h : ℕ) (ts : List Token) (e : Expr) (r : List Token) → SpellsExpr h ts e r → Stands (formed (expr_coded exprs h)) ts e r
from_spelled h ts e r p = (takes_front false (expr_tokens e []) ts p.2 r p.3 p.4, and_from (nat_le (expr_height e) h) (is_expr e) (le-leb (expr_height e) h p.0) p.1)

abbrev pub top : ℕ
top = 200

abbrev AtTop : Form Expr
AtTop = formed (expr_coded exprs top)

top_law : Lawful Expr AtTop
top_law = whole_law 199

same_found : (m : Read Expr) (a b : Expr) (r : List Token) → IsFound a r m → IsFound b r m → b ≡ a
same_found m a b r f g = ap (value_of a) (sym g.1 ∙ f.1)
  where
    value_of : Expr → Read Expr → Expr
    value_of o (Found e r l) = e
    value_of o (Stopped l) = o

front_of : (ts : List Token) (e : Expr) (r : List Token) → SpellsExpr top ts e r → (front : List Token) → ts ≡ front ++ r → SpellsExpr top front e []
front_of ts e r p front e' =
    let same : p.2 ≡ front = append_cancel_right p.2 front r (sym p.3 ∙ e') in
    (p.0, p.1, p.2, sym same ∙ sym (append-nil p.2), p.4)

-- only one tree has the same tokens
pub one_tree : (ts : List Token) (a b : Expr) (r : List Token) → SpellsExpr top ts a r → SpellsExpr top ts b r → b ≡ a
one_tree ts a b r p q =
    let w = front_of ts a r p p.2 p.3 in
    let v = front_of ts b r q p.2 p.3 in
    same_found (AtTop.run p.2) a b [] (top_law.exact p.2 a [] (from_spelled top p.2 a [] w) refl) (top_law.exact p.2 b [] (from_spelled top p.2 b [] v) refl)

-- what is found at a place

module _ (whole rest : List Token) (at : ℕ) (in_range : at ≤ length whole) (back : rest ≡ drop at whole) where
  rest_length : length rest ≡ length whole - at
  rest_length = ap length back ∙ length-drop at whole

  tail_is : (r front : List Token) → rest ≡ front ++ r → drop (length whole - length r) whole ≡ r
  tail_is r front e =
      let pre = take at whole ++ front in
      let w : whole ≡ pre ++ r = sym (take-append-drop at whole) ∙ ap (λ (l : List Token). take at whole ++ l) (sym back ∙ e) ∙ sym (append_assoc (take at whole) front r) in
      let n : length whole - length r ≡ length pre = omega (arith, ap length w, length-append pre r) in
      ap (λ k. drop k whole) n ∙ ap (drop (length pre)) w ∙ drop-append_seam pre r

  spells_here : (e : Expr) (r : List Token) → SpellsExpr top (drop at whole) e r → SpellsExpr top rest e r
  spells_here e r p = subst (λ (v : List Token). SpellsExpr top v e r) (sym back) p

  pub found_here : (e : Expr) (r : List Token) (l : ℕ) → exprs.expr top rest ≡ Found e r l → ExprStands whole at e (length whole - length r)
  found_here e r l f =
      let p = seen Expr AtTop top_law (SpellsExpr top) (to_spelled top) (from_spelled top) rest e r l f in
      subst (λ (v : List Token). SpellsExpr top (drop at whole) e v) (sym (tail_is r p.2 p.3)) (subst (λ (v : List Token). SpellsExpr top v e r) back p)

  pub only_here : (e : Expr) (r : List Token) (l : ℕ) → exprs.expr top rest ≡ Found e r l → IsOnlyExpr whole at e (length whole - length r)
  only_here e r l f other s = one_tree (drop at whole) e other (drop (length whole - length r) whole) (found_here e r l f) s

  pub bounds_here : (e : Expr) (r : List Token) (l : ℕ) → exprs.expr top rest ≡ Found e r l → (length r ≤ length whole) × (l ≤ length whole)
  bounds_here e r l f =
      let b = bounds Expr AtTop top_law (SpellsExpr top) (to_spelled top) (from_spelled top) rest e r l f in
      (omega (arith, b.0, b.1, rest_length), omega (arith, b.0, b.1, rest_length))

  pub bound_here : (l : ℕ) → exprs.expr top rest ≡ Stopped l → l ≤ length whole
  bound_here l f = let b = bound Expr AtTop top_law (SpellsExpr top) (to_spelled top) (from_spelled top) rest l f in omega (arith, b, rest_length)

  pub longest_here : (e : Expr) (r : List Token) (l : ℕ) → exprs.expr top rest ≡ Found e r l → (other : Expr) (s : List Token) → SpellsExpr top (drop at whole) other s → length whole ≤ (length whole - length r) + length s
  longest_here e r l f other s p =
      let n = farthest Expr AtTop top_law (SpellsExpr top) (to_spelled top) (from_spelled top) rest e r l f other s (spells_here other s p) in
      omega (arith, n)

  pub reach_here : (e : Expr) (r : List Token) (l : ℕ) → exprs.expr top rest ≡ Found e r l → IsExprReach whole at (length whole - l)
  reach_here e r l f =
      let b = bounds Expr AtTop top_law (SpellsExpr top) (to_spelled top) (from_spelled top) rest e r l f in
      let le : l ≤ length rest = omega (arith, b.0, b.1) in
      is_reach Expr AtTop top_law (SpellsExpr top) (to_spelled top) (from_spelled top) whole rest at in_range back l (ap reach f) le

  pub none_here : (l : ℕ) → exprs.expr top rest ≡ Stopped l → IsExprReach whole at (length whole - l) × ((e : Expr) (s : List Token) → SpellsExpr top (drop at whole) e s → ⊥)
  none_here l f =
      let b = bound Expr AtTop top_law (SpellsExpr top) (to_spelled top) (from_spelled top) rest l f in (
        is_reach Expr AtTop top_law (SpellsExpr top) (to_spelled top) (from_spelled top) whole rest at in_range back l (ap reach f) b,
        λ e s p. nothing Expr AtTop top_law (SpellsExpr top) (to_spelled top) (from_spelled top) rest l f e s (spells_here e s p),
      )
