-- A form that may be left out.
use Rattle.std.proofs.Common.{◌≡◌, ℕ, Bool, true, false, List, [], ◌++◌, length, Option, Some, None, refl, sym, ap, ◌∙◌, subst, ⊎_elim, inl, inr, arith}
use Rattle.std.proofs.lemmas.Bool.{false≢true, or_parts}
use Rattle.std.specs.Prelude.{◌||◌}
use Rattle.jc_lexer.specs.declared.token.Token.{Token}
use Rattle.jc_grammar.specs.Told.{Told}
use Rattle.jc_reading.specs.Reading.{Read, Found, Stopped, perhaps, perhaps_from}
use Rattle.jc_reading.proofs.Steps.{Good, Goes, IsFound, Refuses, reach, Moves, Plain}
use Rattle.jc_reading.proofs.Forms.{Form, Stands, Begins, Opens, Lawful, begins_as}
use Rattle.jc_reading.specs.Reach.{Within}

abbrev pub tell_some : {A : Type 0} → (A → List Told → List Told) → Option A → List Told → List Told
tell_some tell None r = r
tell_some tell (Some a) r = tell a r

abbrev pub fits_some : {A : Type 0} → (A → Bool) → Option A → Bool
fits_some fits None = true
fits_some fits (Some a) = fits a

module _ (A : Type 0) (fa : Form A) where
  abbrev pub option : Form (Option A)
  option = record {
    tell = tell_some fa.tell;
    fits = fits_some fa.fits;
    run = perhaps fa.run;
    starts = fa.starts;
    goes_on = λ ts. fa.starts ts || fa.goes_on ts;
    empties = true;
  }

module _ (A : Type 0) (fa : Form A) (la : Lawful A fa) (solid : fa.empties ≡ false) where
  abbrev Maybe : Form (Option A)
  Maybe = option A fa

  appends_option : (o : Option A) (r : List Told) → Maybe.fits o ≡ true → Maybe.tell o r ≡ Maybe.tell o [] ++ r
  appends_option None r g = refl
  appends_option (Some a) r g = la.appends a r g

  plain_option : (o : Option A) → Maybe.fits o ≡ true → Plain (Maybe.tell o [])
  plain_option None g = tt
  plain_option (Some a) g = la.plain a g

  within_from : (ts : List Token) (m : Read A) → Within (length ts) m → Within (length ts) (perhaps_from ts m)
  within_from ts (Found a r l) w = w
  within_from ts (Stopped l) w = (w, omega arith)

  sound_from : (ts : List Token) (m : Read A) → Good (Stands fa ts) m → Good (Stands Maybe ts) (perhaps_from ts m)
  sound_from ts (Found a r l) g = g
  sound_from ts (Stopped l) g = (refl, refl)

  goes_from : (ts : List Token) (k : ℕ) (m : Read A) → Goes k m → Goes k (perhaps_from ts m)
  goes_from ts k (Found a r l) g = g
  goes_from ts k (Stopped l) g = absurd g

  goes_anyway : (ts : List Token) (m : Read A) → Within (length ts) m → Goes (length ts) (perhaps_from ts m)
  goes_anyway ts (Found a r l) w = w.1
  goes_anyway ts (Stopped l) w = omega arith

  longest_option : (ts : List Token) (o : Option A) (r : List Token) → Stands Maybe ts o r → Goes (length r) (Maybe.run ts)
  longest_option ts None r s = subst (λ (l : List Token). Goes (length l) (Maybe.run ts)) s.0 (goes_anyway ts (fa.run ts) (la.within ts))
  longest_option ts (Some a) r s = goes_from ts (length r) (fa.run ts) (la.longest ts a r s)

  none_from : (ts : List Token) (m : Read A) → Refuses fa.empties ts m → IsFound None ts (perhaps_from ts m)
  none_from ts (Found a r l) h = absurd (false≢true (sym solid ∙ h.0))
  none_from ts (Stopped l) h = (l, refl)

  exact_option : (ts : List Token) (o : Option A) (r : List Token) → Stands Maybe ts o r → Maybe.goes_on r ≡ false → IsFound o r (Maybe.run ts)
  exact_option ts None r s g =
      let h = (or_parts (fa.starts r) (fa.goes_on r) g).0 in
      let e : ts ≡ r = s.0 in
      subst (λ (l : List Token). IsFound None l (Maybe.run ts)) e (none_from ts (fa.run ts) (la.refuses ts (subst (λ (l : List Token). fa.starts l ≡ false) (sym e) h)))
  exact_option ts (Some a) r s g =
      let w = la.exact ts a r s (or_parts (fa.starts r) (fa.goes_on r) g).1 in (w.0, ap (perhaps_from ts) w.1)

  opens_option : (ts : List Token) (o : Option A) (r : List Token) → Stands Maybe ts o r → Opens Maybe ts r
  opens_option ts None r s = inr (s.0, refl)
  opens_option ts (Some a) r s = ⊎_elim (λ o. inl o) (λ o. absurd (false≢true (sym solid ∙ o.1))) (la.opens ts a r s)

  refuses_from : (ts : List Token) (m : Read A) → Refuses fa.empties ts m → Refuses true ts (perhaps_from ts m)
  refuses_from ts (Found a r l) h = absurd (false≢true (sym solid ∙ h.0))
  refuses_from ts (Stopped l) h = (refl, refl)

  moves_from : (x y p : List Token) (m n : Read A) → Moves x y m n → Moves x y (perhaps_from (p ++ x) m) (perhaps_from (p ++ y) n)
  moves_from x y p (Found a r l) (Found b s k) h lt = let w = h lt in (ap (λ c. Some c) w.0, w.1, w.2, w.3, w.4)
  moves_from x y p (Stopped l) (Stopped k) h lt = (refl, p, refl, refl, h lt)
  moves_from x y p (Found a r l) (Stopped k) h lt = absurd (h lt)
  moves_from x y p (Stopped l) (Found b s k) h lt = absurd (h lt)

  reach_from : (ts : List Token) (m : Read A) → reach (perhaps_from ts m) ≡ reach m
  reach_from ts (Found a r l) = refl
  reach_from ts (Stopped l) = refl

  begins_option : (ts : List Token) → Begins (Option A) Maybe ts (reach (Maybe.run ts))
  begins_option ts =
      subst (λ k. Begins (Option A) Maybe ts k) (sym (reach_from ts (fa.run ts)))
      (begins_as A (Option A) fa Maybe (λ a. Some a) ts (reach (fa.run ts)) (λ us a z s. s) (la.begins ts))

  pub option_laws : Lawful (Option A) Maybe
  option_laws = record {
    appends = appends_option;
    plain = plain_option;
    within = λ ts. within_from ts (fa.run ts) (la.within ts);
    sound = λ ts. sound_from ts (fa.run ts) (la.sound ts);
    longest = longest_option;
    exact = exact_option;
    opens = opens_option;
    refuses = λ ts h. refuses_from ts (fa.run ts) (la.refuses ts h);
    total = λ e ts. goes_anyway ts (fa.run ts) (la.within ts);
    local = λ p x y. moves_from x y p (fa.run (p ++ x)) (fa.run (p ++ y)) (la.local p x y);
    begins = begins_option;
    least = record { value = None; tokens = []; spelled = λ z. (refl, refl) };
  }
