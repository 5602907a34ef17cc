-- The one form or the other, by what stands at the front.
use Rattle.std.proofs.Common.{◌≡◌, ℕ, Bool, true, false, cond, List, [], ◌∷◌, ◌++◌, length, refl, sym, ◌∙◌, subst, ⊎_elim, inl}
use Rattle.std.proofs.lemmas.Bool.{false≢true, or_parts, or_left, or_right, cond_both}
use Rattle.std.specs.Prelude.{◌||◌}
use Rattle.jc_lexer.specs.declared.token.Token.{Token}
use Rattle.jc_grammar.specs.Told.{Told}
use Rattle.jc_reading.specs.Reading.{Read, Found, Stopped, becoming, Either, This, That, either}
use Rattle.jc_reading.specs.Kinds.{one_of}
use Rattle.jc_reading.proofs.Steps.{Good, Goes, IsFound, Refuses, reach, Moves, Plain, good_becoming, within_becoming, goes_becoming, found_becoming, reach_becoming, moves_becoming, moves_none}
use Rattle.jc_reading.proofs.Forms.{Form, Stands, Begins, Opens, Lawful, begins_as}
use Rattle.jc_reading.specs.Reach.{Within}

abbrev pub tell_either : {A B : Type 0} → (A → List Told → List Told) → (B → List Told → List Told) → Either A B → List Told → List Told
tell_either f g (This a) r = f a r
tell_either f g (That b) r = g b r

abbrev pub fits_either : {A B : Type 0} → (A → Bool) → (B → Bool) → Either A B → Bool
fits_either f g (This a) = f a
fits_either f g (That b) = g b

module _ (A B : Type 0) (codes : List ℕ) (fa : Form A) (fb : Form B) where
  -- the first form is read where a token of one of the codes stands
  abbrev pub choice : Form (Either A B)
  choice = record {
    tell = tell_either fa.tell fb.tell;
    fits = fits_either fa.fits fb.fits;
    run = either codes fa.run fb.run;
    starts = λ ts. fa.starts ts || fb.starts ts;
    goes_on = λ ts. fa.goes_on ts || fb.goes_on ts;
    empties = false;
  }

-- which of the two it is
pub record Decides (A B : Type 0) (codes : List ℕ) (fa : Form A) (fb : Form B) : Type 0 where
  pub solid : fa.empties ≡ false
  pub solid' : fb.empties ≡ false
  pub this : (ts : List Token) → fa.starts ts ≡ true → one_of codes ts ≡ true
  pub that : (ts : List Token) → fb.starts ts ≡ true → one_of codes ts ≡ false

module _ (A B : Type 0) (codes : List ℕ) (fa : Form A) (fb : Form B) (la : Lawful A fa) (lb : Lawful B fb) (d : Decides A B codes fa fb) where
  abbrev Choice : Form (Either A B)
  Choice = choice A B codes fa fb

  -- a fact of the run of either
  by_test : (P : Read (Either A B) → Type 0) (ts : List Token) → (one_of codes ts ≡ true → P (becoming This (fa.run ts))) → (one_of codes ts ≡ false → P (becoming That (fb.run ts))) → P (Choice.run ts)
  by_test P ts f g = cond_both (one_of codes ts) (becoming This (fa.run ts)) (becoming That (fb.run ts)) P f g

  this_there : (ts : List Token) (a : A) (r : List Token) → Stands fa ts a r → one_of codes ts ≡ true
  this_there ts a r s = ⊎_elim (λ o. d.this ts o.0) (λ o. absurd (false≢true (sym d.solid ∙ o.1))) (la.opens ts a r s)

  that_there : (ts : List Token) (b : B) (r : List Token) → Stands fb ts b r → one_of codes ts ≡ false
  that_there ts b r s = ⊎_elim (λ o. d.that ts o.0) (λ o. absurd (false≢true (sym d.solid' ∙ o.1))) (lb.opens ts b r s)

  appends_choice : (o : Either A B) (r : List Told) → Choice.fits o ≡ true → Choice.tell o r ≡ Choice.tell o [] ++ r
  appends_choice (This a) r g = la.appends a r g
  appends_choice (That b) r g = lb.appends b r g

  plain_choice : (o : Either A B) → Choice.fits o ≡ true → Plain (Choice.tell o [])
  plain_choice (This a) g = la.plain a g
  plain_choice (That b) g = lb.plain b g

  longest_choice : (ts : List Token) (o : Either A B) (r : List Token) → Stands Choice ts o r → Goes (length r) (Choice.run ts)
  longest_choice ts (This a) r s =
      by_test (Goes (length r)) ts (λ e. goes_becoming (length r) This (fa.run ts) (la.longest ts a r s)) (λ e. absurd (false≢true (sym e ∙ this_there ts a r s)))
  longest_choice ts (That b) r s =
      by_test (Goes (length r)) ts (λ e. absurd (false≢true (sym (that_there ts b r s) ∙ e))) (λ e. goes_becoming (length r) That (fb.run ts) (lb.longest ts b r s))

  exact_choice : (ts : List Token) (o : Either A B) (r : List Token) → Stands Choice ts o r → Choice.goes_on r ≡ false → IsFound o r (Choice.run ts)
  exact_choice ts (This a) r s g =
      by_test (IsFound (This a) r) ts (λ e. found_becoming This a r (fa.run ts) (la.exact ts a r s (or_parts (fa.goes_on r) (fb.goes_on r) g).0)) (λ e. absurd (false≢true (sym e ∙ this_there ts a r s)))
  exact_choice ts (That b) r s g =
      by_test (IsFound (That b) r) ts (λ e. absurd (false≢true (sym (that_there ts b r s) ∙ e))) (λ e. found_becoming That b r (fb.run ts) (lb.exact ts b r s (or_parts (fa.goes_on r) (fb.goes_on r) g).1))

  opens_choice : (ts : List Token) (o : Either A B) (r : List Token) → Stands Choice ts o r → Opens Choice ts r
  opens_choice ts (This a) r s = ⊎_elim (λ o. inl (or_left (fa.starts ts) (fb.starts ts) o.0, o.1)) (λ o. absurd (false≢true (sym d.solid ∙ o.1))) (la.opens ts a r s)
  opens_choice ts (That b) r s = ⊎_elim (λ o. inl (or_right (fa.starts ts) (fb.starts ts) o.0, o.1)) (λ o. absurd (false≢true (sym d.solid' ∙ o.1))) (lb.opens ts b r s)

  refuses_as : (C : Type 0) (f : C → Either A B) (e : Bool) (ts : List Token) (m : Read C) → e ≡ false → Refuses e ts m → Refuses false ts (becoming f m)
  refuses_as C f e ts (Found a r l) h k = absurd (false≢true (sym h ∙ k.0))
  refuses_as C f e ts (Stopped l) h k = refl

  refuses_choice : (ts : List Token) → Choice.starts ts ≡ false → Refuses false ts (Choice.run ts)
  refuses_choice ts h =
      let o = or_parts (fa.starts ts) (fb.starts ts) h in
      by_test (Refuses false ts) ts (λ e. refuses_as A This fa.empties ts (fa.run ts) d.solid (la.refuses ts o.0)) (λ e. refuses_as B That fb.empties ts (fb.run ts) d.solid' (lb.refuses ts o.1))

  moves_test : (b : Bool) (x y : List Token) (m n : Read A) (i j : Read B) → Moves x y m n → Moves x y i j → Moves x y (cond b (becoming This m) (becoming That i)) (cond b (becoming This n) (becoming That j))
  moves_test true x y m n i j h k = moves_becoming x y This m n h
  moves_test false x y m n i j h k = moves_becoming x y That i j k

  within_choice : (ts : List Token) → Within (length ts) (Choice.run ts)
  within_choice ts = by_test (Within (length ts)) ts (λ e. within_becoming (length ts) This (fa.run ts) (la.within ts)) (λ e. within_becoming (length ts) That (fb.run ts) (lb.within ts))

  local_choice : (p x y : List Token) → Moves x y (Choice.run (p ++ x)) (Choice.run (p ++ y))
  local_choice [] x y = moves_none x y (Choice.run x) (Choice.run y) (within_choice x)
  local_choice (t ∷ p) x y =
      moves_test (one_of codes (t ∷ (p ++ x))) x y (fa.run (t ∷ (p ++ x))) (fa.run (t ∷ (p ++ y))) (fb.run (t ∷ (p ++ x))) (fb.run (t ∷ (p ++ y))) (la.local (t ∷ p) x y) (lb.local (t ∷ p) x y)

  begins_choice : (ts : List Token) → Begins (Either A B) Choice ts (reach (Choice.run ts))
  begins_choice ts =
      by_test (λ m. Begins (Either A B) Choice ts (reach m)) ts
      (λ e. subst (λ k. Begins (Either A B) Choice ts k) (sym (reach_becoming This (fa.run ts))) (begins_as A (Either A B) fa Choice This ts (reach (fa.run ts)) (λ us a z s. s) (la.begins ts)))
      (λ e. subst (λ k. Begins (Either A B) Choice ts k) (sym (reach_becoming That (fb.run ts))) (begins_as B (Either A B) fb Choice That ts (reach (fb.run ts)) (λ us a z s. s) (lb.begins ts)))

  pub choice_laws : Lawful (Either A B) Choice
  choice_laws = record {
    appends = appends_choice;
    plain = plain_choice;
    within = within_choice;
    sound = λ ts. by_test (Good (Stands Choice ts)) ts
        (λ e. good_becoming (Stands fa ts) (Stands Choice ts) This (fa.run ts) (la.sound ts) (λ a r s. s))
        (λ e. good_becoming (Stands fb ts) (Stands Choice ts) That (fb.run ts) (lb.sound ts) (λ b r s. s));
    longest = longest_choice;
    exact = exact_choice;
    opens = opens_choice;
    refuses = refuses_choice;
    total = λ e ts. absurd (false≢true e);
    local = local_choice;
    begins = begins_choice;
    least = record { value = This la.least.value; tokens = la.least.tokens; spelled = la.least.spelled };
  }
