-- A level of expressions: a value of the next tighter level, and behind one that does not close it more.
use Rattle.std.proofs.Common.{◌≡◌, ℕ, zero, suc, ◌<◌, ◌≤◌, min, Bool, true, false, List, length, ap, ◌∙◌, arith}
use Rattle.std.proofs.lemmas.Bool.{cond-true, cond-false}
use Rattle.jc_lexer.specs.declared.token.Token.{Token}
use Rattle.jc_tree.specs.declared.expression.Expr.{Expr}
use Rattle.jc_tree.specs.Heights.{expr_height}
use Rattle.jc_reading.specs.declared.reading.Halt.{Halt}
use Rattle.jc_reading.specs.Giving.{Halts}
use Rattle.jc_reading.specs.Reading.{Read, Found, Stopped, Run, found, noting, becoming, joined, ◌>>=◌, as_new}
use Rattle.jc_reading.specs.Further.{unless, followed}
use Rattle.jc_parse_expr.specs.declared.measured.Measured.{Measured}
use Rattle.jc_parse_expr.specs.Measuring.{measured}
use Rattle.jc_parse_expr.proofs.MeasuredRead.{measured_found, measured_halts, halts_by, halts_measured, found_measured}

module _ {T : Type 0} (closes : Expr → Bool) (none : T) (made : (Expr × T) → Expr) (first : Run Expr) (more : Run T) where
  abbrev pub rung_run : Run Expr
  rung_run = as_new made (followed closes none first more)

  step_stops : (ts : List Token) (l : ℕ) → first ts ≡ Stopped l → rung_run ts ≡ Stopped l
  step_stops ts l e = ap (λ (m : Read Expr). becoming made (m >>= unless closes none more)) e

  step_first : (ts : List Token) (v : Expr) (r : List Token) (l : ℕ) → first ts ≡ Found v r l → rung_run ts ≡ becoming made (noting l (unless closes none more v r))
  step_first ts v r l e = ap (λ (m : Read Expr). becoming made (m >>= unless closes none more)) e

  step_closed : (ts : List Token) (v : Expr) (r : List Token) (l : ℕ) → first ts ≡ Found v r l → closes v ≡ true → made (v, none) ≡ v → l ≤ length r → rung_run ts ≡ Found v r l
  step_closed ts v r l e c alone w =
      let far : min l (length r) ≡ l = omega (arith, w) in
      step_first ts v r l e ∙ ap (λ (m : Read (Expr × T)). becoming made (noting l m)) (cond-true (closes v) (found (v, none) r) (becoming (joined v) (more r)) c)
      ∙ ap (λ (x : Expr). Found x r (min l (length r))) alone ∙ ap (λ (k : ℕ). Found v r k) far

  step_more : (ts : List Token) (v : Expr) (r : List Token) (l : ℕ) (t : T) (q : List Token) (n : ℕ) → first ts ≡ Found v r l → closes v ≡ false → more r ≡ Found t q n → rung_run ts ≡ Found (made (v, t)) q (min l n)
  step_more ts v r l t q n e c f =
      step_first ts v r l e ∙ ap (λ (m : Read (Expr × T)). becoming made (noting l m)) (cond-false (closes v) (found (v, none) r) (becoming (joined v) (more r)) c)
      ∙ ap (λ (m : Read T). becoming made (noting l (becoming (joined v) m))) f

-- at height h: with no room for more it is the tighter level
pub record Rung (T : Type 0) (closes : Expr → Bool) (none : T) (made : (Expr × T) → Expr) (first whole : Run Expr) (more : Run T) (h : ℕ) : Type 0 where
  pub low : (ts : List Token) → h ≤ 1 → whole ts ≡ first ts
  pub high : (ts : List Token) → 1 < h → whole ts ≡ rung_run closes none made first more ts
  pub alone : (e : Expr) → made (e, none) ≡ e

pub data Room (h : ℕ) : Type 0 where
  Low : h ≤ 1 → Room h
  High : 1 < h → Room h

pub room : (h : ℕ) → Room h
room zero = Low (omega arith)
room (suc zero) = Low (omega arith)
room (suc (suc k)) = High (omega arith)

module _ (T : Type 0) (closes : Expr → Bool) (none : T) (made : (Expr × T) → Expr) (first whole : Run Expr) (more : Run T) (h : ℕ) (rung : Rung T closes none made first whole more h) where
  stops_at : (ts : List Token) → Room h → (l : ℕ) → first ts ≡ Stopped l → whole ts ≡ Stopped l
  stops_at ts (Low r) l e = rung.low ts r ∙ e
  stops_at ts (High r) l e = rung.high ts r ∙ step_stops closes none made first more ts l e

  pub rung_halts : (ts : List Token) (e : Halt) → Halts e (becoming measured (first ts)) → Halts e (becoming measured (whole ts))
  rung_halts ts e m = halts_measured expr_height (whole ts) e (halts_by (first ts) (whole ts) (stops_at ts (room h)) e (measured_halts expr_height (first ts) e m))

  closed_at : (ts : List Token) → Room h → (v : Expr) (r : List Token) (l : ℕ) → first ts ≡ Found v r l → (1 < h → closes v ≡ true) → l ≤ length r → whole ts ≡ Found v r l
  closed_at ts (Low r) v q l e c w = rung.low ts r ∙ e
  closed_at ts (High r) v q l e c w = rung.high ts r ∙ step_closed closes none made first more ts v q l e (c r) (rung.alone v) w

  pub rung_closed : (ts : List Token) (v : Measured Expr) (r : List Token) (l : ℕ) → becoming measured (first ts) ≡ Found v r l → (1 < h → closes v.tree ≡ true) → l ≤ length r → becoming measured (whole ts) ≡ Found v r l
  rung_closed ts v r l e c w =
      let f = measured_found expr_height (first ts) v r l e in
      found_measured expr_height (whole ts) v.tree v r l (closed_at ts (room h) v.tree r l f.0 c w) (ap (λ (n : ℕ). record { tree = v.tree; height = n }) f.1)

  pub rung_more : (ts : List Token) (v : Measured Expr) (r : List Token) (l : ℕ) (t : T) (q : List Token) (n : ℕ) (w : Measured Expr) → 1 < h → becoming measured (first ts) ≡ Found v r l → closes v.tree ≡ false → more r ≡ Found t q n → w ≡ measured (made (v.tree, t)) → becoming measured (whole ts) ≡ Found w q (min l n)
  rung_more ts v r l t q n w room e c f g =
      let b = measured_found expr_height (first ts) v r l e in
      found_measured expr_height (whole ts) (made (v.tree, t)) w q (min l n) (rung.high ts room ∙ step_more closes none made first more ts v.tree r l t q n b.0 c f) g
