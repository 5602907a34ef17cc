-- A form with other tests of where it begins and goes on.
use Rattle.std.proofs.Common.{◌≡◌, ◌<◌, Bool, true, false, List, length, sym, ◌∙◌, ⊎_elim, inl, inr}
use Rattle.std.proofs.lemmas.Bool.{false≢true, false_from_ne_true}
use Rattle.jc_lexer.specs.declared.token.Token.{Token}
use Rattle.jc_reading.proofs.Steps.{Refuses}
use Rattle.jc_reading.proofs.Forms.{Form, Stands, Lawful, begins_as}

module _ (A : Type 0) (fa : Form A) (starts goes_on : List Token → Bool) where
  abbrev pub retested : Form A
  retested = record { tell = fa.tell; fits = fa.fits; run = fa.run; starts = starts; goes_on = goes_on; empties = fa.empties }

pub record Retests (A : Type 0) (fa : Form A) (starts goes_on : List Token → Bool) : Type 0 where
  pub opens : (ts : List Token) (a : A) (r : List Token) → Stands fa ts a r → length r < length ts → starts ts ≡ true
  pub refuses : (ts : List Token) → starts ts ≡ false → Refuses fa.empties ts (fa.run ts)
  pub goes_too : (ts : List Token) → fa.goes_on ts ≡ true → goes_on ts ≡ true

module _ (A : Type 0) (fa : Form A) (starts goes_on : List Token → Bool) (la : Lawful A fa) (h : Retests A fa starts goes_on) where
  abbrev Other : Form A
  Other = retested A fa starts goes_on

  pub retested_laws : Lawful A Other
  retested_laws = record {
    appends = la.appends;
    plain = la.plain;
    within = la.within;
    sound = la.sound;
    longest = la.longest;
    exact = λ ts a r s g. la.exact ts a r s (false_from_ne_true (fa.goes_on r) (λ t. false≢true (sym g ∙ h.goes_too r t)));
    opens = λ ts a r s. ⊎_elim (λ o. inl (h.opens ts a r s o.1, o.1)) (λ o. inr o) (la.opens ts a r s);
    refuses = h.refuses;
    total = la.total;
    local = la.local;
    begins = λ ts. begins_as A A fa Other (λ a. a) ts _ (λ us a z s. s) (la.begins ts);
    least = record { value = la.least.value; tokens = la.least.tokens; spelled = la.least.spelled };
  }
