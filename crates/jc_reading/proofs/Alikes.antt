-- A form whose values are made of those of another one.
use Rattle.std.proofs.Common.{◌≡◌, Bool, true, false, List, [], ◌++◌, length, sym, ap, ◌∙◌, subst, ⊎_elim, inl, inr}
use Rattle.std.proofs.lemmas.Bool.{false≢true, false_from_ne_true}
use Rattle.jc_lexer.specs.declared.token.Token.{Token}
use Rattle.jc_grammar.specs.Told.{Told}
use Rattle.jc_reading.specs.Reading.{Read, Found, Stopped, becoming, as_new, Takes}
use Rattle.jc_reading.proofs.Steps.{Goes, IsFound, Refuses, reach, Plain, good_becoming, within_becoming, goes_becoming, found_becoming, reach_becoming, moves_becoming}
use Rattle.jc_reading.proofs.Forms.{Form, Stands, Begins, Opens, Lawful, begins_as}

module _ (A B : Type 0) (fa : Form A) (make : A → B) (tell : B → List Told → List Told) (fits : B → Bool) (starts goes_on : List Token → Bool) where
  abbrev pub alike : Form B
  alike = record { tell = tell; fits = fits; run = as_new make fa.run; starts = starts; goes_on = goes_on; empties = fa.empties }

-- what is made tells the same, each value is made of one, and the tests are no stricter
pub record Alike (A B : Type 0) (fa : Form A) (make : A → B) (tell : B → List Told → List Told) (fits : B → Bool) (starts goes_on : List Token → Bool) : Type 0 where
  pub told : (a : A) (r : List Told) → fa.fits a ≡ true → tell (make a) r ≡ fa.tell a r
  pub forth : (a : A) → fa.fits a ≡ true → fits (make a) ≡ true
  pub back : (b : B) → fits b ≡ true → (a : A) × (make a ≡ b) × (fa.fits a ≡ true)
  pub starts_too : (ts : List Token) → fa.starts ts ≡ true → starts ts ≡ true
  pub goes_too : (ts : List Token) → fa.goes_on ts ≡ true → goes_on ts ≡ true

module _ (A B : Type 0) (fa : Form A) (make : A → B) (tell : B → List Told → List Told) (fits : B → Bool) (starts goes_on : List Token → Bool) (la : Lawful A fa) (h : Alike A B fa make tell fits starts goes_on) where
  abbrev Made : Form B
  Made = alike A B fa make tell fits starts goes_on

  not_so : (b c : Bool) → (b ≡ true → c ≡ true) → c ≡ false → b ≡ false
  not_so b c f e = false_from_ne_true b (λ t. false≢true (sym e ∙ f t))

  stands_made : (ts : List Token) (a : A) (r : List Token) → Stands fa ts a r → Stands Made ts (make a) r
  stands_made ts a r s = (subst (λ (l : List Told). Takes false l ts r) (sym (h.told a [] s.1)) s.0, h.forth a s.1)

  stands_back : (ts : List Token) (b : B) (r : List Token) → Stands Made ts b r → (a : A) × (make a ≡ b) × Stands fa ts a r
  stands_back ts b r s =
      let w = h.back b s.1 in
      (w.0, w.1, (subst (λ (l : List Told). Takes false l ts r) (ap (λ c. tell c []) (sym w.1) ∙ h.told w.0 [] w.2) s.0, w.2))

  appends_made : (b : B) (r : List Told) (a : A) → fa.fits a ≡ true → make a ≡ b → tell b r ≡ tell b [] ++ r
  appends_made b r a g e =
      ap (λ c. tell c r) (sym e) ∙ h.told a r g ∙ la.appends a r g ∙ ap (λ (l : List Told). l ++ r) (sym (h.told a [] g) ∙ ap (λ c. tell c []) e)

  longest_made : (ts : List Token) (b : B) (r : List Token) → Stands Made ts b r → Goes (length r) (Made.run ts)
  longest_made ts b r s = let w = stands_back ts b r s in goes_becoming (length r) make (fa.run ts) (la.longest ts w.0 r w.2)

  exact_made : (ts : List Token) (b : B) (r : List Token) → Stands Made ts b r → goes_on r ≡ false → IsFound b r (Made.run ts)
  exact_made ts b r s g =
      let w = stands_back ts b r s in
      subst (λ c. IsFound c r (Made.run ts)) w.1 (found_becoming make w.0 r (fa.run ts) (la.exact ts w.0 r w.2 (not_so (fa.goes_on r) (goes_on r) (h.goes_too r) g)))

  opens_made : (ts : List Token) (b : B) (r : List Token) → Stands Made ts b r → Opens Made ts r
  opens_made ts b r s = let w = stands_back ts b r s in ⊎_elim (λ o. inl (h.starts_too ts o.0, o.1)) (λ o. inr o) (la.opens ts w.0 r w.2)

  refuses_made : (ts : List Token) (m : Read A) → Refuses fa.empties ts m → Refuses fa.empties ts (becoming make m)
  refuses_made ts (Found a r l) k = k
  refuses_made ts (Stopped l) k = k

  begins_made : (ts : List Token) → Begins B Made ts (reach (Made.run ts))
  begins_made ts = subst (λ k. Begins B Made ts k) (sym (reach_becoming make (fa.run ts))) (begins_as A B fa Made make ts (reach (fa.run ts)) (λ us a z s. stands_made us a z s) (la.begins ts))

  pub alike_laws : Lawful B Made
  alike_laws = record {
    appends = λ b r g. let w = h.back b g in appends_made b r w.0 w.2 w.1;
    plain = λ b g. let w = h.back b g in subst (λ (l : List Told). Plain l) (sym (h.told w.0 [] w.2) ∙ ap (λ c. tell c []) w.1) (la.plain w.0 w.2);
    within = λ ts. within_becoming (length ts) make (fa.run ts) (la.within ts);
    sound = λ ts. good_becoming (Stands fa ts) (Stands Made ts) make (fa.run ts) (la.sound ts) (λ a r s. stands_made ts a r s);
    longest = longest_made;
    exact = exact_made;
    opens = opens_made;
    refuses = λ ts g. refuses_made ts (fa.run ts) (la.refuses ts (not_so (fa.starts ts) (starts ts) (h.starts_too ts) g));
    total = λ e ts. goes_becoming (length ts) make (fa.run ts) (la.total e ts);
    local = λ p x y. moves_becoming x y make (fa.run (p ++ x)) (fa.run (p ++ y)) (la.local p x y);
    begins = begins_made;
    least = record { value = make la.least.value; tokens = la.least.tokens; spelled = λ z. stands_made (la.least.tokens ++ z) la.least.value z (la.least.spelled z) };
  }
