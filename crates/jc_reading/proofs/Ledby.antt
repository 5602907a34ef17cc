-- A form behind a sign, and lists of such.
use Rattle.std.proofs.Common.{◌≡◌, ℕ, Bool, true, false, List, [], ◌∷◌, map, length, Option, Some, None, refl, sym, ap, ◌∙◌, subst, ⊎_elim}
use Rattle.std.proofs.lemmas.Bool.{false≢true, and_from, and_cases}
use Rattle.std.specs.Prelude.{◌&&◌, ◌||◌}
use Rattle.jc_lexer.specs.declared.token.Sign.{Sign}
use Rattle.jc_lexer.specs.declared.token.Sign.TheVariants as sign_of
use Rattle.jc_lexer.specs.declared.token.Token.{Token}
use Rattle.jc_grammar.specs.Told.{Told, sign, after_commas, commas}
use Rattle.jc_reading.specs.Kinds.{sign_code, one_of}
use Rattle.jc_reading.specs.Reading.{Read, Found, Stopped, noting, ◌>>=◌, becoming, joined, on_pick, picks, rest_of, behind_it, first_and_more, commas_run}
use Rattle.jc_reading.proofs.Steps.{Refuses}
use Rattle.jc_reading.proofs.Forms.{Form, Lawful, Stands}
use Rattle.jc_reading.proofs.Pairs.{pair, pair_laws, cut}
use Rattle.jc_reading.proofs.Lists.{many, many_laws, tell_all, fits_all}
use Rattle.jc_reading.proofs.Alikes.{alike_laws}
use Rattle.jc_reading.proofs.Retests.{retested, retested_laws}
use Rattle.jc_reading.proofs.Signs.{a_sign, sign_laws}

pub or_false : (b : Bool) → (b || false) ≡ true → b ≡ true
or_false true e = refl
or_false false e = e

module _ (A : Type 0) (s : Sign) (fa : Form A) where
  -- the sign, and then what may begin the form
  abbrev pub led_starts : List Token → Bool
  led_starts ts = one_of (sign_code s ∷ []) ts && fa.starts (rest_of ts)

  abbrev Behind : Form (Unit {0} × A)
  Behind = pair (Unit {0}) A (a_sign s) fa

  abbrev pub led : Form (Unit {0} × A)
  led = retested (Unit {0} × A) Behind led_starts fa.goes_on

module _ (A : Type 0) (s : Sign) (fa : Form A) (la : Lawful A fa) (solid : fa.empties ≡ false) where
  behind_laws : Lawful (Unit {0} × A) (Behind A s fa)
  behind_laws = pair_laws (Unit {0}) A (a_sign s) fa (sign_laws s) la (λ ts e. refl)

  led_opens : (ts : List Token) (p : Unit {0} × A) (r : List Token) → Stands (Behind A s fa) ts p r → led_starts A s fa ts ≡ true
  led_opens [] p r t = absurd t.0
  led_opens (k ∷ ts) p r t =
      let w = cut (Unit {0}) A (a_sign s) fa (sign_laws s) la (λ ts e. refl) (k ∷ ts) p r t in
      let first : one_of (sign_code s ∷ []) (k ∷ ts) ≡ true = ⊎_elim (λ o. o.0) (λ o. absurd (false≢true o.1)) ((sign_laws s).opens (k ∷ ts) p.0 w.0 w.1) in
      let second : fa.starts w.0 ≡ true = ⊎_elim (λ o. o.0) (λ o. absurd (false≢true (sym solid ∙ o.1))) (la.opens w.0 p.1 r w.2) in
      and_from (one_of (sign_code s ∷ []) (k ∷ ts)) (fa.starts ts) first (subst (λ (l : List Token). fa.starts l ≡ true) (sym w.1.0.1) second)

  refuses_next : (m : Read A) (ts us : List Token) (l : ℕ) → fa.empties ≡ false → Refuses fa.empties us m → Refuses false ts (noting l (becoming (joined {A = Unit {0}} tt) m))
  refuses_next (Found a q k) ts us l e h = absurd (false≢true (sym e ∙ h.0))
  refuses_next (Stopped k) ts us l e h = refl

  refuses_pick : (o : Option (Unit {0})) (k : Token) (ts : List Token) → fa.starts ts ≡ false → Refuses false (k ∷ ts) (on_pick o ts >>= (λ a q. becoming (joined a) (fa.run q)))
  refuses_pick (Some u) k ts e = refuses_next (fa.run ts) (k ∷ ts) ts (length ts) solid (la.refuses ts e)
  refuses_pick None k ts e = refl

  led_refuses : (ts : List Token) → led_starts A s fa ts ≡ false → Refuses (false && fa.empties) ts ((Behind A s fa).run ts)
  led_refuses [] e = refl
  led_refuses (k ∷ ts) e =
      ⊎_elim
      (λ (f : one_of (sign_code s ∷ []) (k ∷ ts) ≡ false). behind_laws.refuses (k ∷ ts) (neither (one_of (sign_code s ∷ []) (k ∷ ts)) f))
      (λ f. refuses_pick (picks (sign_code s) k) k ts f)
      (and_cases (one_of (sign_code s ∷ []) (k ∷ ts)) (fa.starts ts) e)
    where
      neither : (b : Bool) → b ≡ false → (b || false) ≡ false
      neither true e = e
      neither false e = e

  pub led_laws : Lawful (Unit {0} × A) (led A s fa)
  led_laws = retested_laws (Unit {0} × A) (Behind A s fa) (led_starts A s fa) fa.goes_on behind_laws
      (record { opens = λ ts p r t lt. led_opens ts p r t; refuses = led_refuses; goes_too = λ ts e. alone (fa.goes_on ts) fa.empties solid e })
    where
      alone : (b e : Bool) → e ≡ false → (b || (e && false)) ≡ true → b ≡ true
      alone true e q h = refl
      alone false true q h = h
      alone false false q h = h

  -- each behind the sign
  abbrev pub led_many : Form (List (Unit {0} × A))
  led_many = many (Unit {0} × A) (led A s fa)

  pub led_many_laws : ((ts : List Token) → led_starts A s fa ts ≡ true → fa.goes_on ts ≡ false) → Lawful (List (Unit {0} × A)) led_many
  led_many_laws next = many_laws (Unit {0} × A) (led A s fa) led_laws (record { solid = refl; next = next })

-- lists with something between their parts

abbrev pub fits_some_of : {A : Type 0} → (A → Bool) → List A → Bool
fits_some_of fits [] = false
fits_some_of fits (a ∷ list) = fits a && fits_all fits list

pub unled : {A : Type 0} → List A → List (Unit {0} × A)
unled [] = []
unled (a ∷ list) = (tt, a) ∷ unled list

pub unled_back : {A : Type 0} (list : List A) → map behind_it (unled list) ≡ list
unfolding unled
unled_back [] = refl
unled_back (a ∷ list) = ap (λ (more : List _). a ∷ more) (unled_back list)

pub unled_fits : {A : Type 0} (fits : A → Bool) (list : List A) → fits_all (λ (p : Unit {0} × A). true && fits p.1) (unled list) ≡ fits_all fits list
unfolding unled
unled_fits fits [] = refl
unled_fits fits (a ∷ list) = ap (λ b. fits a && b) (unled_fits fits list)

pub behind_fits : {A : Type 0} (fits : A → Bool) (list : List (Unit {0} × A)) → fits_all (λ (p : Unit {0} × A). true && fits p.1) list ≡ fits_all fits (map behind_it list)
behind_fits fits [] = refl
behind_fits fits (p ∷ list) = ap (λ b. fits p.1 && b) (behind_fits fits list)

module _ (A : Type 0) (fa : Form A) where
  abbrev pub comma_starts : List Token → Bool
  comma_starts = led_starts A sign_of.Comma fa

  abbrev pub commas_form : Form (List A)
  commas_form = record {
    tell = λ list r. commas (map fa.tell list) r;
    fits = fits_some_of fa.fits;
    run = commas_run fa.run;
    starts = fa.starts;
    goes_on = λ ts. comma_starts ts || fa.goes_on ts;
    empties = fa.empties && true;
  }

module _ (A : Type 0) (fa : Form A) (la : Lawful A fa) (solid : fa.empties ≡ false) (next : (ts : List Token) → comma_starts A fa ts ≡ true → fa.goes_on ts ≡ false) where
  abbrev More : Form (List (Unit {0} × A))
  More = led_many A sign_of.Comma fa la solid

  abbrev Row : Form (A × List (Unit {0} × A))
  Row = pair A (List (Unit {0} × A)) fa More

  row_laws : Lawful (A × List (Unit {0} × A)) Row
  row_laws = pair_laws A (List (Unit {0} × A)) fa More la (led_many_laws A sign_of.Comma fa la solid next) next

  told_more : (list : List (Unit {0} × A)) (r : List Told) → after_commas (map fa.tell (map behind_it list)) r ≡ tell_all (led A sign_of.Comma fa).tell list r
  told_more [] r = refl
  told_more (p ∷ list) r = ap (λ (l : List Told). sign sign_of.Comma ∷ fa.tell p.1 l) (told_more list r)

  back_row : (list : List A) → fits_some_of fa.fits list ≡ true → (p : A × List (Unit {0} × A)) × (first_and_more p ≡ list) × (Row.fits p ≡ true)
  back_row [] e = absurd (false≢true e)
  back_row (a ∷ list) e = ((a, unled list), ap (λ (more : List A). a ∷ more) (unled_back list), ap (λ b. fa.fits a && b) (unled_fits fa.fits list) ∙ e)

  row_starts : (ts : List Token) (e : Bool) → e ≡ false → (fa.starts ts || (e && comma_starts A fa ts)) ≡ true → fa.starts ts ≡ true
  row_starts ts true q h = absurd (false≢true (sym q))
  row_starts ts false q h = or_false (fa.starts ts) h

  pub commas_laws : Lawful (List A) (commas_form A fa)
  commas_laws = alike_laws (A × List (Unit {0} × A)) (List A) Row first_and_more (λ list r. commas (map fa.tell list) r) (fits_some_of fa.fits) fa.starts (λ ts. comma_starts A fa ts || fa.goes_on ts) row_laws
      (record {
        told = λ p r g. ap (fa.tell p.0) (told_more p.1 r);
        forth = λ p e. ap (λ b. fa.fits p.0 && b) (sym (behind_fits fa.fits p.1)) ∙ e;
        back = back_row;
        starts_too = λ ts e. row_starts ts fa.empties solid e;
        goes_too = λ ts e. goes_of (comma_starts A fa ts) (fa.goes_on ts) e;
      })
    where
      goes_of : (b c : Bool) → ((b || c) || c) ≡ true → (b || c) ≡ true
      goes_of true c e = refl
      goes_of false true e = refl
      goes_of false false e = e
