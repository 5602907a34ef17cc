-- Loops that grow a value by the parts behind it, turn by turn.
use Rattle.std.proofs.Common.{◌≡◌, ℕ, zero, suc, ◌<◌, ◌≤◌, min, List, ◌∷◌, length, refl, sym, ap, ◌∙◌, arith}
use Rattle.jc_lexer.specs.declared.token.Token.{Token}
use Rattle.jc_tree.specs.declared.expression.Expr.{Expr}
use Rattle.jc_reading.specs.Reading.{Read, Found, Stopped, Run, noting, becoming, as_new}
use Rattle.jc_reading.specs.Growing.{one_then, steps, grown}
use Rattle.jc_parse_expr.specs.PrimeCode.{grown_on}

module _ {P : Type 0} (make : Expr → P → Expr) (part : Expr → Run P) where
  -- the loop has a value before the tokens that are left, with room for as many turns
  abbrev pub Grows : Read Expr → Expr → ℕ → List Token → Type 0
  Grows whole v left rest = (n : ℕ) × (length rest ≤ n) × (whole ≡ noting left (becoming (grown make v) (steps n make part v rest)))

  pub grows_first : (v : Expr) (ts : List Token) (reach : ℕ) → Grows (grown_on make part v ts reach) v reach ts
  grows_first v ts reach = (length ts, omega arith, refl)

  grown_more : (v : Expr) (left l : ℕ) (p : P) (m : Read (List P)) → noting left (becoming (grown make v) (noting l (becoming (λ more. p ∷ more) m))) ≡ noting (min left l) (becoming (grown make (make v p)) m)
  grown_more v left l p (Found more r k) = let e : min left (min l k) ≡ min (min left l) k = omega arith in ap (λ j. Found (grown make (make v p) more) r j) e
  grown_more v left l p (Stopped k) = let e : min left (min l k) ≡ min (min left l) k = omega arith in ap (λ j. Stopped j) e

  pub grows_next : (whole : Read Expr) (v : Expr) (left : ℕ) (rest q : List Token) (p : P) (l : ℕ) → Grows whole v left rest → part v rest ≡ Found p q l → length q < length rest → Grows whole (make v p) (min left l) q
  unfolding steps
  grows_next whole v left rest q p l (zero, e, s) r lt = absurd (omega (arith, e, lt))
  grows_next whole v left rest q p l (suc n, e, s) r lt =
      (n, omega (arith, e, lt), s ∙ ap (λ (m : Read P). noting left (becoming (grown make v) (one_then rest m (λ p. steps n make part (make v p))))) r ∙ grown_more v left l p (steps n make part (make v p) q))

  pub grows_stop : (whole : Read Expr) (v : Expr) (left : ℕ) (rest : List Token) (l : ℕ) → Grows whole v left rest → part v rest ≡ Stopped l → l ≤ length rest → whole ≡ Found v rest (min left l)
  unfolding steps
  grows_stop whole v left rest l (zero, e, s) r w = let k : length rest ≡ l = omega (arith, e, w) in s ∙ ap (λ j. Found v rest (min left j)) k
  grows_stop whole v left rest l (suc n, e, s) r w = s ∙ ap (λ (m : Read P). noting left (becoming (grown make v) (one_then rest m (λ p. steps n make part (make v p))))) r

-- the parts are made of others one by one

module _ {P Q : Type 0} (make : Expr → P → Expr) (made : Expr → Q → Expr) (tree : P → Q) (part : Expr → Run P) (same : (v : Expr) (p : P) → make v p ≡ made v (tree p)) where
  one_as : (n : ℕ) (v : Expr) (ts : List Token) → ((v : Expr) (q : List Token) → becoming (grown make v) (steps n make part v q) ≡ becoming (grown made v) (steps n made (λ v. as_new tree (part v)) v q)) → (m : Read P)
      → becoming (grown make v) (one_then ts m (λ p. steps n make part (make v p))) ≡ becoming (grown made v) (one_then ts (becoming tree m) (λ q. steps n made (λ v. as_new tree (part v)) (made v q)))
  one_as n v ts f (Stopped l) = refl
  one_as n v ts f (Found p q l) = put v l p (steps n make part (make v p) q) ∙ ap (noting l) (f (make v p) q) ∙ ap (λ (x : Expr). noting l (becoming (grown made x) (steps n made (λ v. as_new tree (part v)) x q))) (same v p) ∙ sym (take v l (tree p) (steps n made (λ v. as_new tree (part v)) (made v (tree p)) q))
    where
      put : (v : Expr) (l : ℕ) (p : P) (m : Read (List P)) → becoming (grown make v) (noting l (becoming (λ more. p ∷ more) m)) ≡ noting l (becoming (grown make (make v p)) m)
      put v l p (Found more r k) = refl
      put v l p (Stopped k) = refl

      take : (v : Expr) (l : ℕ) (p : Q) (m : Read (List Q)) → becoming (grown made v) (noting l (becoming (λ more. p ∷ more) m)) ≡ noting l (becoming (grown made (made v p)) m)
      take v l p (Found more r k) = refl
      take v l p (Stopped k) = refl

  pub steps_as : (n : ℕ) (v : Expr) (ts : List Token) → becoming (grown make v) (steps n make part v ts) ≡ becoming (grown made v) (steps n made (λ v. as_new tree (part v)) v ts)
  unfolding steps
  steps_as zero v ts = refl
  steps_as (suc n) v ts = one_as n v ts (steps_as n) (part v ts)
