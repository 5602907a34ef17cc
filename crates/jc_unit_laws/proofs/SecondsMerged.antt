-- The one kind of values or the other, by the first two tokens.
use Rattle.std.proofs.Common.{◌≡◌, ℕ, true, false, List, ◌++◌, refl, sym, ◌∙◌, ⊎_elim, ◌⊎◌, inl, inr}
use Rattle.std.proofs.lemmas.Bool.{false≢true, or_left, or_right, or_cases, cases_Bool}
use Rattle.std.specs.Prelude.{◌||◌}
use Rattle.jc_grammar.specs.Told.{Told}
use Rattle.jc_reading.specs.Further.{by_second, either_one}
use Rattle.jc_reading.specs.Reading.{as_new, Either, This, That}
use Rattle.jc_reading.proofs.Choices.{tell_either, fits_either}
use Rattle.jc_reading.proofs.Coded.{Coded, formed, made_laws}
use Rattle.jc_reading.proofs.Forms.{Lawful}
use Rattle.jc_reading.proofs.Seconds.{seconds, Parts, seconds_laws}

abbrev pub by_two : {A : Type 0} → ℕ → List ℕ → Coded A → Coded A → Coded A
by_two code codes ca cb = record { tell = ca.tell; fits = λ a. ca.fits a || cb.fits a; run = as_new either_one (by_second code codes ca.run cb.run); starts = ca.starts ++ cb.starts; goes = ca.goes ++ cb.goes; empties = false }

pub by_two_laws : (A : Type 0) (code : ℕ) (codes : List ℕ) (ca cb : Coded A) → Lawful A (formed ca) → Lawful A (formed cb) → Parts A A code codes ca cb → ((a : A) (r : List Told) → ca.tell a r ≡ cb.tell a r) → Lawful A (formed (by_two code codes ca cb))
by_two_laws A code codes ca cb la lb d same =
    made_laws (Either A A) A (seconds code codes ca cb) either_one ca.tell (λ a. ca.fits a || cb.fits a) (seconds_laws A A code codes ca cb la lb d)
    (record { told = told; forth = forth; back = λ a g. back a (cases_Bool (ca.fits a)) g })
  where
    told : (o : Either A A) (r : List Told) → fits_either ca.fits cb.fits o ≡ true → ca.tell (either_one o) r ≡ tell_either ca.tell cb.tell o r
    told (This a) r g = refl
    told (That a) r g = same a r

    forth : (o : Either A A) → fits_either ca.fits cb.fits o ≡ true → (ca.fits (either_one o) || cb.fits (either_one o)) ≡ true
    forth (This a) g = or_left (ca.fits a) (cb.fits a) g
    forth (That a) g = or_right (ca.fits a) (cb.fits a) g

    back : (a : A) → (ca.fits a ≡ true) ⊎ (ca.fits a ≡ false) → (ca.fits a || cb.fits a) ≡ true → (o : Either A A) × (either_one o ≡ a) × (fits_either ca.fits cb.fits o ≡ true)
    back a (inl t) g = (This a, refl, t)
    back a (inr f) g = (That a, refl, ⊎_elim (λ t. absurd (false≢true (sym f ∙ t))) (λ t. t) (or_cases (ca.fits a) (cb.fits a) g))
