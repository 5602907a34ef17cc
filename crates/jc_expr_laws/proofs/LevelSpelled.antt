-- The same values told in another way, where the same tokens are as told.
use Rattle.std.proofs.Common.{◌≡◌, ◌<◌, Bool, true, false, List, [], ◌++◌, length, refl, sym, ap, ◌∙◌, ⊎_elim, arith}
use Rattle.std.proofs.lemmas.Bool.{false≢true}
use Rattle.jc_lexer.specs.declared.token.Token.{Token}
use Rattle.jc_grammar.specs.Told.{Told}
use Rattle.jc_reading.specs.Reading.{Read, Found, Stopped, Takes}
use Rattle.jc_reading.proofs.Steps.{Good, reach, Plain}
use Rattle.jc_reading.proofs.Forms.{Form, Lawful, Stands, begins_as}
use Rattle.jc_reading.proofs.Retests.{retested, retested_laws}

module _ (A : Type 0) (fa : Form A) (tell : A → List Told → List Told) where
  abbrev pub respelled : Form A
  respelled = record { tell = tell; fits = fa.fits; run = fa.run; starts = fa.starts; goes_on = fa.goes_on; empties = fa.empties }

  pub record Respells : Type 0 where
    pub appends : (a : A) (r : List Told) → fa.fits a ≡ true → tell a r ≡ tell a [] ++ r
    pub plain : (a : A) → fa.fits a ≡ true → Plain (tell a [])
    pub forth : (a : A) (ts r : List Token) → fa.fits a ≡ true → Takes false (fa.tell a []) ts r → Takes false (tell a []) ts r
    pub back : (a : A) (ts r : List Token) → fa.fits a ≡ true → Takes false (tell a []) ts r → Takes false (fa.tell a []) ts r

  module _ (la : Lawful A fa) (d : Respells) where
    stands_forth : (ts : List Token) (a : A) (r : List Token) → Stands fa ts a r → Stands respelled ts a r
    stands_forth ts a r s = (d.forth a ts r s.1 s.0, s.1)

    stands_back : (ts : List Token) (a : A) (r : List Token) → Stands respelled ts a r → Stands fa ts a r
    stands_back ts a r s = (d.back a ts r s.1 s.0, s.1)

    good_more : (ts : List Token) (m : Read A) → Good (Stands fa ts) m → Good (Stands respelled ts) m
    good_more ts (Found a r l) g = stands_forth ts a r g
    good_more ts (Stopped l) g = tt

    pub respelled_laws : Lawful A respelled
    respelled_laws = record {
      appends = d.appends;
      plain = d.plain;
      within = la.within;
      sound = λ ts. good_more ts (fa.run ts) (la.sound ts);
      longest = λ ts a r s. la.longest ts a r (stands_back ts a r s);
      exact = λ ts a r s g. la.exact ts a r (stands_back ts a r s) g;
      opens = λ ts a r s. la.opens ts a r (stands_back ts a r s);
      refuses = la.refuses;
      total = la.total;
      local = la.local;
      begins = λ ts. begins_as A A fa respelled (λ a. a) ts (reach (fa.run ts)) (λ us a z s. stands_forth us a z s) (la.begins ts);
      least = record { value = la.least.value; tokens = la.least.tokens; spelled = λ z. stands_forth (la.least.tokens ++ z) la.least.value z (la.least.spelled z) };
    }

-- with tests that are no stricter
pub loosened_laws : (A : Type 0) (fa : Form A) (starts goes_on : List Token → Bool) → Lawful A fa → ((ts : List Token) → fa.starts ts ≡ true → starts ts ≡ true) → ((ts : List Token) → fa.goes_on ts ≡ true → goes_on ts ≡ true) → Lawful A (retested A fa starts goes_on)
loosened_laws A fa starts goes_on la s g =
    retested_laws A fa starts goes_on la
    (record {
      opens = λ ts a r t lt. ⊎_elim (λ o. s ts o.0) (λ o. absurd (no_less ts r lt o.0)) (la.opens ts a r t);
      refuses = λ ts e. la.refuses ts (not_then (fa.starts ts) (starts ts) (s ts) e);
      goes_too = g;
    })
  where
    no_less : (ts r : List Token) → length r < length ts → ts ≡ r → ⊥
    no_less ts r lt e = omega (arith, lt, ap length e)

    not_then : (b c : Bool) → (b ≡ true → c ≡ true) → c ≡ false → b ≡ false
    not_then true c f e = absurd (false≢true (sym e ∙ f refl))
    not_then false c f e = refl
