-- Where no token of a kind stands, what begins with one is not read, and any number of it is none.
use Rattle.std.proofs.Common.{◌≡◌, ℕ, Bool, true, false, cond, ◌||◌, ◌&&◌, ◌==◌, List, [], ◌∷◌, length, min, Some, None, refl, sym, ap, ◌∙◌, eq-eqb, eqb-true, ⊎_elim, arith}
use Rattle.std.proofs.lemmas.Bool.{cases_Bool, cond-false, false≢true, or_left}
use Rattle.jc_lexer.specs.declared.token.Sign.TheVariants as sign_of
use Rattle.jc_lexer.specs.declared.token.Token.{Token}
use Rattle.jc_reading.specs.Kinds.{kind_code, one_of, sign_code}
use Rattle.jc_reading.specs.Reading.{Read, Stopped, Run, found, noting, becoming, one_more, times, any_number, This, That, either, on_pick, of_kind, at_kind}
use Rattle.jc_reading.specs.Further.{or_else, preferring}
use Rattle.jc_expr_laws.specs.LevelReading.{touching_run}

other_code : (code n : ℕ) → ((code == n) || false) ≡ false → (n == code) ≡ false
other_code code n e =
    ⊎_elim (λ (t : (n == code) ≡ true). absurd (false≢true (sym e ∙ or_left (code == n) false (eq-eqb code n (sym (eqb-true n code t)))))) (λ (f : (n == code) ≡ false). f) (cases_Bool (n == code))

pub kind_quiet : (code : ℕ) (ts : List Token) → one_of (code ∷ []) ts ≡ false → of_kind code ts ≡ Stopped (length ts)
kind_quiet code [] e = refl
kind_quiet code (t ∷ q) e = ap (λ (b : Bool). on_pick (cond b (Some tt) None) q) (other_code code (kind_code t.kind) e)

pub place_quiet : (code : ℕ) (ts : List Token) → one_of (code ∷ []) ts ≡ false → at_kind code ts ≡ Stopped (length ts)
place_quiet code [] e = refl
place_quiet code (t ∷ q) e = ap (λ (b : Bool). on_pick (cond b (Some t.from) None) q) (other_code code (kind_code t.kind) e)

pub touching_quiet : (ts : List Token) → one_of (sign_code sign_of.Greater ∷ []) ts ≡ false → touching_run ts ≡ Stopped (length ts)
touching_quiet [] e = refl
touching_quiet (t ∷ q) e = ap (λ (b : Bool). on_pick (cond (b && t.touches) (Some tt) None) q) (other_code (sign_code sign_of.Greater) (kind_code t.kind) e)

pub either_quiet : {A B : Type 0} (code : ℕ) (m : Run A) (n : Run B) (ts : List Token) → one_of (code ∷ []) ts ≡ false → n ts ≡ Stopped (length ts) → either (code ∷ []) m n ts ≡ Stopped (length ts)
either_quiet code m n ts e f = cond-false (one_of (code ∷ []) ts) (becoming This (m ts)) (becoming That (n ts)) e ∙ ap (becoming That) f

pub prefer_quiet : {A B : Type 0} (m : Run A) (n : Run B) (ts : List Token) → m ts ≡ Stopped (length ts) → n ts ≡ Stopped (length ts) → preferring m n ts ≡ Stopped (length ts)
prefer_quiet {A = A} {B = B} m n ts e f =
    ap (λ (v : Read A). or_else ts v n) e ∙ ap (λ (v : Read B). noting (length ts) (becoming That v)) f ∙ (let i : min (length ts) (length ts) ≡ length ts = omega arith in ap (λ k. Stopped k) i)

pub any_quiet : {A : Type 0} (m : Run A) (ts : List Token) → m ts ≡ Stopped (length ts) → any_number m ts ≡ found [] ts
unfolding times
any_quiet m [] e = refl
any_quiet m (t ∷ q) e = ap (λ (v : Read _). one_more (t ∷ q) v (times (length q) m)) e
