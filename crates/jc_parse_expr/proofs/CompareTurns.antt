-- The loop that reads comparisons, turn by turn.
use Rattle.std.proofs.Common.{◌≡◌, ℕ, zero, suc, ◌+◌, ◌<◌, ◌≤◌, min, Bool, List, [], ◌∷◌, ◌++◌, length, append-nil, append_assoc, Some, refl, sym, ap, ◌∙◌, arith}
use Rattle.jc_lexer.specs.declared.token.Token.{Token}
use Rattle.jc_reading.specs.Reading.{Read, Found, Stopped, Run, noting, becoming}
use Rattle.jc_reading.specs.Growing.{one_then}
use Rattle.std.specs.Prelude.{slice_get}
use Rattle.jc_reading.proofs.Codes.{some_is, none_is}
use Rattle.jc_reading.proofs.Turns.{noting_far}
use Rattle.jc_reading.specs.Reach.{Within, onto}
use Rattle.jc_expr_laws.specs.CompareReading.{is_touching, touched_before, links, linked}
use Rattle.jc_expr_laws.proofs.CompareMarks.{touched_here, touched_later}

module _ {V P : Type 0} (make : V → P → V) (part : V → Bool → Run P) where
  -- the loop stands before the tokens that are left, with room for as many turns
  abbrev pub LinksOn : Read (List P) → List P → ℕ → V → Bool → List Token → Type 0
  LinksOn whole list left v touched rest = (n : ℕ) × (length rest ≤ n) × (whole ≡ onto list left (links n make part v touched rest))

  resume_noting : (list : List P) (left l : ℕ) (p : P) (m : Read (List P)) → onto list left (noting l (becoming (λ more. p ∷ more) m)) ≡ onto (list ++ p ∷ []) (min left l) m
  resume_noting list left l p (Found more r k) =
      ap (λ (v : List P). Found v r (min left (min l k))) (sym (append_assoc list (p ∷ []) more)) ∙ (let e : min left (min l k) ≡ min (min left l) k = omega arith in ap (λ j. Found ((list ++ p ∷ []) ++ more) r j) e)
  resume_noting list left l p (Stopped k) = let e : min left (min l k) ≡ min (min left l) k = omega arith in ap (λ j. Stopped j) e

  pub links_next : (whole : Read (List P)) (list : List P) (left : ℕ) (v : V) (touched : Bool) (rest q : List Token) (p : P) (l : ℕ) → LinksOn whole list left v touched rest → part v touched rest ≡ Found p q l → length q < length rest
      → LinksOn whole (list ++ p ∷ []) (min left l) (make v p) (touched_before rest (length q)) q
  unfolding links
  links_next whole list left v touched rest q p l (zero, e, s) r lt = absurd (omega (arith, e, lt))
  links_next whole list left v touched rest q p l (suc n, e, s) r lt = (
    n,
    omega (arith, e, lt),
    s ∙ ap (λ (m : Read P). onto list left (one_then rest m (λ a k. links n make part (make v a) (touched_before rest (length k)) k))) r ∙ resume_noting list left l p (links n make part (make v p) (touched_before rest (length q)) q),
  )

  pub links_stop : (whole : Read (List P)) (list : List P) (left : ℕ) (v : V) (touched : Bool) (rest : List Token) (l : ℕ) → LinksOn whole list left v touched rest → part v touched rest ≡ Stopped l → l ≤ length rest → whole ≡ Found list rest (min left l)
  unfolding links
  links_stop whole list left v touched rest l (zero, e, s) r w =
      let k : length rest ≡ l = omega (arith, e, w) in
      s ∙ ap (λ (x : List P). Found x rest (min left (length rest))) (append-nil list) ∙ ap (λ j. Found list rest (min left j)) k
  links_stop whole list left v touched rest l (suc n, e, s) r w =
      s ∙ ap (λ (m : Read P). onto list left (one_then rest m (λ a k. links n make part (make v a) (touched_before rest (length k)) k))) r ∙ ap (λ (x : List P). Found x rest (min left l)) (append-nil list)

  becoming_same : (m : Read (List P)) → m ≡ becoming (λ more. [] ++ more) m
  becoming_same (Found a r l) = refl
  becoming_same (Stopped l) = refl

  within_same : (k : ℕ) (m : Read (List P)) → Within k m → Within k (becoming (λ more. [] ++ more) m)
  within_same k (Found a r l) w = w
  within_same k (Stopped l) w = w

  pub links_first : (v : V) (touched : Bool) (ts : List Token) → Within (length ts) (linked make part v touched ts) → LinksOn (linked make part v touched ts) [] (length ts) v touched ts
  links_first v touched ts w =
      (length ts, omega arith, becoming_same (linked make part v touched ts) ∙ noting_far (length ts) (becoming (λ more. [] ++ more) (linked make part v touched ts)) (within_same (length ts) (linked make part v touched ts) w))

pub touched_get : (ts : List Token) (i : ℕ) (t : Token) (n : ℕ) → slice_get ts i ≡ Some t → suc (i + n) ≡ length ts → touched_before ts n ≡ is_touching t
touched_get [] i t n e l = absurd (none_is t e)
touched_get (f ∷ ts) zero t n e l = touched_here f ts n (omega (arith, l)) ∙ ap is_touching (some_is f t e)
touched_get (f ∷ ts) (suc i) t n e l = touched_later f ts n (omega (arith, l)) ∙ touched_get ts i t n e (omega (arith, l))
