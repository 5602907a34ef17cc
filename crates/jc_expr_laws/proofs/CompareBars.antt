-- A form that is not read where a token of some kinds stands.
use Rattle.std.proofs.Common.{◌≡◌, ℕ, ◌≤◌, Bool, true, false, cond, List, [], ◌∷◌, ◌++◌, length, refl, sym, ap, ◌∙◌, subst, ⊎_elim, ◌⊎◌, inl, inr, arith}
use Rattle.std.proofs.lemmas.Bool.{false≢true, and_parts, and_from, cond_both, cond-false}
use Rattle.std.specs.Prelude.{◌&&◌, not}
use Rattle.jc_rules.proofs.Truths.{not_false as not_true}
use Rattle.jc_lexer.specs.declared.token.Token.{Token}
use Rattle.jc_reading.specs.Kinds.{kind_code, is_in, front_code, one_of}
use Rattle.jc_reading.specs.Reading.{Read, Found, Stopped}
use Rattle.jc_reading.proofs.Steps.{Good, Goes, IsFound, Refuses, reach, Moves, moves_none, moves_stop}
use Rattle.jc_reading.proofs.Forms.{Form, Stands, Begins, Lawful}
use Rattle.jc_reading.proofs.Stepwise.{Steady}
use Rattle.jc_reading.specs.Reach.{Within}
use Rattle.jc_expr_laws.specs.CompareReading.{barring}

not_false : (b : Bool) → b ≡ false → not b ≡ true
not_false true e = absurd (false≢true (sym e))
not_false false e = refl

module _ (A : Type 0) (codes : List ℕ) (lead : A → ℕ) (fa : Form A) where
  abbrev pub barred_form : Form A
  barred_form = record { tell = fa.tell; fits = λ a. fa.fits a && not (is_in codes (lead a)); run = barring codes fa.run; starts = fa.starts; goes_on = fa.goes_on; empties = false }

module _ (A : Type 0) (codes : List ℕ) (lead : A → ℕ) (fa : Form A) (la : Lawful A fa) (solid : fa.empties ≡ false) (leads : (ts : List Token) (a : A) (r : List Token) → Stands fa ts a r → front_code ts ≡ lead a) where
  abbrev Barred : Form A
  Barred = barred_form A codes lead fa

  free : (ts : List Token) (a : A) (r : List Token) → Stands Barred ts a r → Stands fa ts a r × (one_of codes ts ≡ false)
  free ts a r s =
      let f = and_parts (fa.fits a) (not (is_in codes (lead a))) s.1 in
      ((s.0, f.0), ap (is_in codes) (leads ts a r (s.0, f.0)) ∙ not_true (is_in codes (lead a)) f.1)

  bar : (ts : List Token) (a : A) (r : List Token) → one_of codes ts ≡ false → Stands fa ts a r → Stands Barred ts a r
  bar ts a r e s = (s.0, and_from (fa.fits a) (not (is_in codes (lead a))) s.1 (not_false (is_in codes (lead a)) (sym (ap (is_in codes) (leads ts a r s)) ∙ e)))

  by_front : (P : Read A → Type 0) (ts : List Token) → (one_of codes ts ≡ true → P (Stopped (length ts))) → (one_of codes ts ≡ false → P (fa.run ts)) → P (Barred.run ts)
  by_front P ts f g = cond_both (one_of codes ts) (Stopped (length ts)) (fa.run ts) P f g

  good_barred : (ts : List Token) (m : Read A) → one_of codes ts ≡ false → Good (Stands fa ts) m → Good (Stands Barred ts) m
  good_barred ts (Found a r l) e g = bar ts a r e g
  good_barred ts (Stopped l) e g = tt

  within_barred : (ts : List Token) → Within (length ts) (Barred.run ts)
  within_barred ts = by_front (Within (length ts)) ts (λ e. omega arith) (λ e. la.within ts)

  -- where it is read, it is as the form is
  pub found_barred : (ts : List Token) (a : A) (r : List Token) → one_of codes ts ≡ false → IsFound a r (fa.run ts) → IsFound a r (Barred.run ts)
  found_barred ts a r e f = subst (λ (m : Read A). IsFound a r m) (sym (cond-false (one_of codes ts) (Stopped (length ts)) (fa.run ts) e)) f

  pub unbarred : (ts : List Token) (a : A) (r : List Token) → Stands Barred ts a r → Stands fa ts a r × (one_of codes ts ≡ false)
  unbarred = free

  moves_cond : (b : Bool) (x y : List Token) (m k n j : Read A) → Moves x y m n → Moves x y k j → Moves x y (cond b m k) (cond b n j)
  moves_cond true x y m k n j f g = f
  moves_cond false x y m k n j f g = g

  local_barred : (p x y : List Token) → Moves x y (Barred.run (p ++ x)) (Barred.run (p ++ y))
  local_barred [] x y = moves_none x y (Barred.run x) (Barred.run y) (within_barred x)
  local_barred (t ∷ p) x y =
      moves_cond (is_in codes (kind_code t.kind)) x y (Stopped (length (t ∷ p ++ x))) (fa.run (t ∷ p ++ x)) (Stopped (length (t ∷ p ++ y))) (fa.run (t ∷ p ++ y)) (moves_stop A x y (t ∷ p)) (la.local (t ∷ p) x y)

  same_front : (front back rest ts : List Token) → ts ≡ front ++ back → (front ≡ [] → ⊥) → front_code ts ≡ front_code (front ++ rest)
  same_front [] back rest ts e n = absurd (n refl)
  same_front (t ∷ front) back rest ts e n = ap front_code e

  none_left : (front back ts : List Token) (k : ℕ) → ts ≡ front ++ back → length back ≡ k → front ≡ [] → k ≡ length ts
  none_left front back ts k e l n = sym l ∙ sym (ap length (e ∙ ap (λ (f : List Token). f ++ back) n))

  some_or_none : (l : List Token) → (l ≡ []) ⊎ (l ≡ [] → ⊥)
  some_or_none [] = inl refl
  some_or_none (t ∷ l) = inr (λ e. let n : 1 ≤ 0 = subst (λ (k : List Token). length (t ∷ []) ≤ length k) e (omega arith) in omega (arith, n))

  begins_barred : (ts : List Token) (k : ℕ) → one_of codes ts ≡ false → Begins A fa ts k → Begins A Barred ts k ⊎ (k ≡ length ts)
  begins_barred ts k e b =
      ⊎_elim
      (λ (n : b.front ≡ []). inr (none_left b.front b.back ts k b.whole b.left n))
      (λ (n : b.front ≡ [] → ⊥). inl (record {
        front = b.front;
        back = b.back;
        whole = b.whole;
        left = b.left;
        value = b.value;
        more = b.more;
        spelled = λ z. bar (b.front ++ (b.more ++ z)) b.value z (ap (is_in codes) (sym (same_front b.front b.back (b.more ++ z) ts b.whole n)) ∙ e) (b.spelled z);
      }))
      (some_or_none b.front)

  pub barred_steady : Steady A Barred
  barred_steady = record {
    appends = λ a r g. la.appends a r (and_parts (fa.fits a) (not (is_in codes (lead a))) g).0;
    plain = λ a g. la.plain a (and_parts (fa.fits a) (not (is_in codes (lead a))) g).0;
    within = within_barred;
    sound = λ ts. by_front (Good (Stands Barred ts)) ts (λ e. tt) (λ e. good_barred ts (fa.run ts) e (la.sound ts));
    longest = λ ts a r s. let w = free ts a r s in subst (λ (m : Read A). Goes (length r) m) (sym (cond-false (one_of codes ts) (Stopped (length ts)) (fa.run ts) w.1)) (la.longest ts a r w.0);
    exact = λ ts a r s g. let w = free ts a r s in found_barred ts a r w.1 (la.exact ts a r w.0 g);
    opens = λ ts a r s. ⊎_elim (λ o. o) (λ o. absurd (false≢true (sym solid ∙ o.1))) (la.opens ts a r (free ts a r s).0);
    refuses = λ ts g. by_front (Refuses false ts) ts (λ e. refl) (λ e. subst (λ b. Refuses b ts (fa.run ts)) solid (la.refuses ts g));
    local = local_barred;
    begins = λ ts. by_front (λ m. Begins A Barred ts (reach m) ⊎ (reach m ≡ length ts)) ts (λ e. inr refl) (λ e. begins_barred ts (reach (fa.run ts)) e (la.begins ts));
  }
