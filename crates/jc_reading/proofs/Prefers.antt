-- The one form, or where it stops the other.
use Rattle.std.proofs.Common.{◌≡◌, ℕ, ◌<◌, ◌≤◌, min, true, false, List, [], ◌++◌, length, refl, sym, ap, ◌∙◌, subst, ⊎_elim, inl, arith}
use Rattle.std.proofs.lemmas.Bool.{false≢true, cases_Bool}
use Rattle.jc_lexer.specs.declared.token.Token.{Token}
use Rattle.jc_grammar.specs.Told.{Told}
use Rattle.jc_reading.specs.Kinds.{front_code, one_of}
use Rattle.jc_reading.specs.Reading.{Read, Found, Stopped, noting, becoming, Either, This, That}
use Rattle.jc_reading.proofs.Steps.{Good, Goes, IsFound, Refuses, reach, Moves, Plain, good_becoming, good_noting, within_becoming, within_noting, goes_becoming, goes_noting, found_becoming, found_noting, reach_becoming, reach_noting, moves_becoming, moved_noting}
use Rattle.jc_reading.proofs.Forms.{Lawful, Stands, Begins, Opens, begins_as, begins_pick}
use Rattle.jc_reading.proofs.Choices.{tell_either, fits_either}
use Rattle.jc_reading.specs.Further.{or_else, preferring}
use Rattle.jc_reading.proofs.Coded.{Coded, formed, in_first, in_second}
use Rattle.jc_reading.specs.Reach.{Within}

module _ (A B : Type 0) (goes : List ℕ) (ca : Coded A) (cb : Coded B) where
  abbrev pub preferred : Coded (Either A B)
  preferred = record { tell = tell_either ca.tell cb.tell; fits = fits_either ca.fits cb.fits; run = preferring ca.run cb.run; starts = ca.starts ++ cb.starts; goes = goes; empties = false }

  pub record Prefer : Type 0 where
    pub solid : ca.empties ≡ false
    pub solid' : cb.empties ≡ false
    pub goes_first : (r : List Token) → one_of goes r ≡ false → one_of ca.goes r ≡ false
    pub goes_second : (r : List Token) → one_of goes r ≡ false → one_of cb.goes r ≡ false
    -- where both stand, the one is no shorter, and the other could go on
    pub longer : (ts : List Token) (a : A) (q : List Token) (b : B) (r : List Token) → Stands (formed ca) ts a q → Stands (formed cb) ts b r → (length q ≤ length r) × (one_of goes r ≡ true)

module _ (A B : Type 0) (goes : List ℕ) (ca : Coded A) (cb : Coded B) (la : Lawful A (formed ca)) (lb : Lawful B (formed cb)) (d : Prefer A B goes ca cb) where
  abbrev Whole : Coded (Either A B)
  Whole = preferred A B goes ca cb

  abbrev second_part : Read B → Read (Either A B)
  second_part m = becoming That m

  abbrev On : List Token → Read A → Read (Either A B)
  On ts m = or_else ts m cb.run

  sound_on : (ts : List Token) (m : Read A) → Good (Stands (formed ca) ts) m → Good (Stands (formed Whole) ts) (On ts m)
  sound_on ts (Found a q l) g = g
  sound_on ts (Stopped l) g = good_noting (Stands (formed Whole) ts) l (second_part (cb.run ts)) (good_becoming (Stands (formed cb) ts) (Stands (formed Whole) ts) That (cb.run ts) (lb.sound ts) (λ b r t. t))

  within_on : (ts : List Token) (m : Read A) → Within (length ts) m → Within (length ts) (On ts m)
  within_on ts (Found a q l) w = w
  within_on ts (Stopped l) w = within_noting l (length ts) (second_part (cb.run ts)) (within_becoming (length ts) That (cb.run ts) (lb.within ts))

  goes_this : (ts : List Token) (k : ℕ) (m : Read A) → Goes k m → Goes k (On ts m)
  goes_this ts k (Found a q l) g = g
  goes_this ts k (Stopped l) g = absurd g

  goes_that : (ts : List Token) (b : B) (r : List Token) (m : Read A) → Good (Stands (formed ca) ts) m → Stands (formed cb) ts b r → Goes (length r) (On ts m)
  goes_that ts b r (Found a q l) g s = (d.longer ts a q b r g s).0
  goes_that ts b r (Stopped l) g s = goes_noting l (length r) (second_part (cb.run ts)) (goes_becoming (length r) That (cb.run ts) (lb.longest ts b r s))

  longest_on : (ts : List Token) (o : Either A B) (r : List Token) → Stands (formed Whole) ts o r → Goes (length r) (Whole.run ts)
  longest_on ts (This a) r s = goes_this ts (length r) (ca.run ts) (la.longest ts a r s)
  longest_on ts (That b) r s = goes_that ts b r (ca.run ts) (la.sound ts) s

  exact_that : (ts : List Token) (b : B) (r : List Token) (m : Read A) → Good (Stands (formed ca) ts) m → Stands (formed cb) ts b r → one_of goes r ≡ false → IsFound (That b) r (On ts m)
  exact_that ts b r (Found a q l) g s e = absurd (false≢true (sym e ∙ (d.longer ts a q b r g s).1))
  exact_that ts b r (Stopped l) g s e = found_noting l (That b) r (second_part (cb.run ts)) (found_becoming That b r (cb.run ts) (lb.exact ts b r s (d.goes_second r e)))

  exact_on : (ts : List Token) (o : Either A B) (r : List Token) → Stands (formed Whole) ts o r → one_of goes r ≡ false → IsFound o r (Whole.run ts)
  exact_on ts (This a) r s g = let f = la.exact ts a r s (d.goes_first r g) in (f.0, ap (λ (m : Read A). On ts m) f.1)
  exact_on ts (That b) r s g = exact_that ts b r (ca.run ts) (la.sound ts) s g

  opens_on : (ts : List Token) (o : Either A B) (r : List Token) → Stands (formed Whole) ts o r → Opens (formed Whole) ts r
  opens_on ts (This a) r s = ⊎_elim (λ o. inl (in_first ca.starts cb.starts (front_code ts) o.0, o.1)) (λ o. absurd (false≢true (sym d.solid ∙ o.1))) (la.opens ts a r s)
  opens_on ts (That b) r s = ⊎_elim (λ o. inl (in_second ca.starts cb.starts (front_code ts) o.0, o.1)) (λ o. absurd (false≢true (sym d.solid' ∙ o.1))) (lb.opens ts b r s)

  no_first : (ts : List Token) → one_of Whole.starts ts ≡ false → one_of ca.starts ts ≡ false
  no_first ts g = ⊎_elim (λ t. absurd (false≢true (sym g ∙ in_first ca.starts cb.starts (front_code ts) t))) (λ f. f) (cases_Bool (one_of ca.starts ts))

  no_second : (ts : List Token) → one_of Whole.starts ts ≡ false → one_of cb.starts ts ≡ false
  no_second ts g = ⊎_elim (λ t. absurd (false≢true (sym g ∙ in_second ca.starts cb.starts (front_code ts) t))) (λ f. f) (cases_Bool (one_of cb.starts ts))

  refuses_that : (l : ℕ) (ts : List Token) (m : Read B) → Refuses cb.empties ts m → Refuses false ts (noting l (second_part m))
  refuses_that l ts (Found b r k) h = absurd (false≢true (sym d.solid' ∙ h.0))
  refuses_that l ts (Stopped k) h = refl

  refuses_on : (ts : List Token) (m : Read A) → Refuses ca.empties ts m → Refuses cb.empties ts (cb.run ts) → Refuses false ts (On ts m)
  refuses_on ts (Found a q l) h k = absurd (false≢true (sym d.solid ∙ h.0))
  refuses_on ts (Stopped l) h k = refuses_that l ts (cb.run ts) k

  moves_on : (p x y : List Token) (m n : Read A) → Moves x y m n → Moves x y (On (p ++ x) m) (On (p ++ y) n)
  moves_on p x y (Found a r l) (Found b s k) h lt = let w = h lt in (ap (λ c. This c) w.0, w.1, w.2, w.3, w.4)
  moves_on p x y (Found a r l) (Stopped k) h lt = absurd (h lt)
  moves_on p x y (Stopped l) (Found b s k) h lt =
      let u : length x < min l (reach (second_part (cb.run (p ++ x)))) = subst (λ (j : ℕ). length x < j) (reach_noting l (second_part (cb.run (p ++ x)))) lt in absurd (h (omega arith))
  moves_on p x y (Stopped l) (Stopped k) h lt =
      let u : length x < min l (reach (second_part (cb.run (p ++ x)))) = subst (λ (j : ℕ). length x < j) (reach_noting l (second_part (cb.run (p ++ x)))) lt in
      moved_noting x y l k (second_part (cb.run (p ++ x))) (second_part (cb.run (p ++ y))) (h (omega arith)) (moves_becoming x y That (cb.run (p ++ x)) (cb.run (p ++ y)) (lb.local p x y) (omega arith))

  begins_first : (ts : List Token) (l : ℕ) → Begins A (formed ca) ts l → Begins (Either A B) (formed Whole) ts l
  begins_first ts l b = begins_as A (Either A B) (formed ca) (formed Whole) This ts l (λ us a z s. s) b

  begins_on : (ts : List Token) (m : Read A) → Begins A (formed ca) ts (reach m) → Begins (Either A B) (formed Whole) ts (reach (On ts m))
  begins_on ts (Found a q l) b = begins_first ts l b
  begins_on ts (Stopped l) b =
      subst (λ k. Begins (Either A B) (formed Whole) ts k) (sym (reach_noting l (second_part (cb.run ts)) ∙ ap (λ k. min l k) (reach_becoming That (cb.run ts))))
      (begins_pick (Either A B) (formed Whole) ts l (reach (cb.run ts)) (begins_first ts l b) (begins_as B (Either A B) (formed cb) (formed Whole) That ts (reach (cb.run ts)) (λ us c z s. s) (lb.begins ts)))

  pub preferred_laws : Lawful (Either A B) (formed Whole)
  preferred_laws = record {
    appends = appends;
    plain = plain;
    within = λ ts. within_on ts (ca.run ts) (la.within ts);
    sound = λ ts. sound_on ts (ca.run ts) (la.sound ts);
    longest = longest_on;
    exact = exact_on;
    opens = opens_on;
    refuses = λ ts g. refuses_on ts (ca.run ts) (la.refuses ts (no_first ts g)) (lb.refuses ts (no_second ts g));
    total = λ e ts. absurd (false≢true e);
    local = λ p x y. moves_on p x y (ca.run (p ++ x)) (ca.run (p ++ y)) (la.local p x y);
    begins = λ ts. begins_on ts (ca.run ts) (la.begins ts);
    least = record { value = That lb.least.value; tokens = lb.least.tokens; spelled = lb.least.spelled };
  }
    where
      appends : (o : Either A B) (r : List Told) → Whole.fits o ≡ true → Whole.tell o r ≡ Whole.tell o [] ++ r
      appends (This a) r g = la.appends a r g
      appends (That b) r g = lb.appends b r g

      plain : (o : Either A B) → Whole.fits o ≡ true → Plain (Whole.tell o [])
      plain (This a) g = la.plain a g
      plain (That b) g = lb.plain b g
