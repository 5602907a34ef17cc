-- Lists whose last part is found whatever follows.
use Rattle.std.proofs.Common.{◌≡◌, ℕ, zero, suc, ◌<◌, ◌≤◌, true, false, List, [], ◌∷◌, length, refl, sym, ap, ◌∙◌, subst, ⊎_elim, arith}
use Rattle.std.proofs.lemmas.Bool.{false≢true, and_parts}
use Rattle.jc_lexer.specs.declared.token.Token.{Token}
use Rattle.jc_grammar.specs.Told.{Told}
use Rattle.jc_reading.specs.Reading.{Read, Found, Stopped, one_more, times, becoming, Takes}
use Rattle.jc_reading.proofs.Steps.{IsFound, Refuses, found_becoming, found_noting, takes_cut}
use Rattle.jc_reading.proofs.Forms.{Form, Lawful, Stands}
use Rattle.jc_reading.proofs.Lists.{many, Follows}

abbrev pub last_in : {A : Type 0} → A → List A → A
last_in a [] = a
last_in a (b ∷ list) = last_in b list

module _ (A : Type 0) (fa : Form A) (la : Lawful A fa) (d : Follows A fa) where
  abbrev Many : Form (List A)
  Many = many A fa

  cut : (ts : List Token) (a : A) (list : List A) (r : List Token) → Stands Many ts (a ∷ list) r → (m : List Token) × Stands fa ts a m × Stands Many m list r
  cut ts a list r s =
      let f = and_parts (fa.fits a) (Many.fits list) s.1 in
      let e = subst (λ (l : List Told). Takes false l ts r) (la.appends a (Many.tell list []) f.0) s.0 in
      let w = takes_cut false (fa.tell a []) (Many.tell list []) ts r e in
      (w.0, (w.1, f.0), (w.2, f.1))

  begun : (ts : List Token) (a : A) (m : List Token) → Stands fa ts a m → (fa.starts ts ≡ true) × (length m < length ts)
  begun ts a m s = ⊎_elim (λ o. o) (λ o. absurd (false≢true (sym d.solid ∙ o.1))) (la.opens ts a m s)

  pub starts_there : (ts : List Token) (a : A) (list : List A) (r : List Token) → Stands Many ts (a ∷ list) r → fa.starts ts ≡ true
  starts_there ts a list r s = let w = cut ts a list r s in (begun ts a w.0 w.1).0

  none_one : (ts : List Token) (m : Read A) (rest : List Token → Read (List A)) → Refuses fa.empties ts m → IsFound [] ts (one_more ts m rest)
  none_one ts (Found a q l) rest k = absurd (false≢true (sym d.solid ∙ k.0))
  none_one ts (Stopped l) rest k = (l, refl)

  none_found : (n : ℕ) (ts : List Token) → fa.starts ts ≡ false → IsFound [] ts (times n fa.run ts)
  unfolding times
  none_found zero ts g = (length ts, refl)
  none_found (suc n) ts g = none_one ts (fa.run ts) (times n fa.run) (la.refuses ts g)

  found_next : (ts q r : List Token) (a : A) (list : List A) (m : Read A) (rest : List Token → Read (List A)) → IsFound a q m → IsFound list r (rest q) → IsFound (a ∷ list) r (one_more ts m rest)
  found_next ts q r a list m rest f g =
      let w = found_noting f.0 (a ∷ list) r (becoming (λ more. a ∷ more) (rest q)) (found_becoming (λ more. a ∷ more) list r (rest q) g) in
      (w.0, ap (λ (v : Read A). one_more ts v rest) f.1 ∙ w.1)

  found_times : (n : ℕ) (ts : List Token) (a : A) (list : List A) (r : List Token) → length ts ≤ n → Stands Many ts (a ∷ list) r → fa.starts r ≡ false → ((us : List Token) → Stands fa us (last_in a list) r → IsFound (last_in a list) r (fa.run us)) → IsFound (a ∷ list) r (times n fa.run ts)
  unfolding times
  found_times zero ts a list r e s g k = let w = cut ts a list r s in let lt = (begun ts a w.0 w.1).1 in absurd (omega (arith, lt, e))
  found_times (suc n) ts a [] r e s g k =
      let w = cut ts a [] r s in
      found_next ts r r a [] (fa.run ts) (times n fa.run) (k ts (subst (λ (l : List Token). Stands fa ts a l) w.2.0 w.1)) (none_found n r g)
  found_times (suc n) ts a (b ∷ list) r e s g k =
      let w = cut ts a (b ∷ list) r s in
      let lt = (begun ts a w.0 w.1).1 in
      let u = cut w.0 b list r w.2 in
      found_next ts w.0 r a (b ∷ list) (fa.run ts) (times n fa.run) (la.exact ts a w.0 w.1 (d.next w.0 (begun w.0 b u.0 u.1).0)) (found_times n w.0 b list r (omega (arith, lt, e)) w.2 g k)

  -- where none begins
  pub many_none : (ts : List Token) → fa.starts ts ≡ false → IsFound [] ts (Many.run ts)
  many_none ts g = none_found (length ts) ts g

  pub many_last : (ts : List Token) (a : A) (list : List A) (r : List Token) → Stands Many ts (a ∷ list) r → fa.starts r ≡ false → ((us : List Token) → Stands fa us (last_in a list) r → IsFound (last_in a list) r (fa.run us)) → IsFound (a ∷ list) r (Many.run ts)
  many_last ts a list r s g k = found_times (length ts) ts a list r (omega arith) s g k
