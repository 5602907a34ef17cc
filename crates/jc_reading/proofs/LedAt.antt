-- A form behind a sign whose place the tree has.
use Rattle.std.proofs.Common.{◌≡◌, ℕ, Bool, true, false, List, [], ◌∷◌, length, Option, Some, None, refl, sym, ◌∙◌, subst, ⊎_elim}
use Rattle.std.proofs.lemmas.Bool.{false≢true, and_from, and_cases}
use Rattle.std.specs.Prelude.{◌&&◌, ◌||◌}
use Rattle.jc_lexer.specs.declared.token.Sign.{Sign}
use Rattle.jc_lexer.specs.declared.token.Token.{Token}
use Rattle.jc_reading.specs.Kinds.{sign_code, one_of}
use Rattle.jc_reading.specs.Reading.{Read, Found, Stopped, noting, ◌>>=◌, becoming, joined, on_pick, picks_at, rest_of}
use Rattle.jc_reading.proofs.Steps.{Refuses}
use Rattle.jc_reading.proofs.Forms.{Form, Lawful, Stands}
use Rattle.jc_reading.proofs.Pairs.{pair, pair_laws, cut}
use Rattle.jc_reading.proofs.Retests.{retested, retested_laws}
use Rattle.jc_reading.proofs.Signs.{a_sign_at, sign_at_laws}

module _ (A : Type 0) (s : Sign) (fa : Form A) where
  -- the sign, and then what may begin the form
  abbrev pub led_at_starts : List Token → Bool
  led_at_starts ts = one_of (sign_code s ∷ []) ts && fa.starts (rest_of ts)

  abbrev Behind : Form (ℕ × A)
  Behind = pair ℕ A (a_sign_at s) fa

  abbrev pub led_at : Form (ℕ × A)
  led_at = retested (ℕ × A) Behind led_at_starts fa.goes_on

module _ (A : Type 0) (s : Sign) (fa : Form A) (la : Lawful A fa) (solid : fa.empties ≡ false) where
  behind_laws : Lawful (ℕ × A) (Behind A s fa)
  behind_laws = pair_laws ℕ A (a_sign_at s) fa (sign_at_laws s) la (λ ts e. refl)

  led_opens : (ts : List Token) (p : ℕ × A) (r : List Token) → Stands (Behind A s fa) ts p r → led_at_starts A s fa ts ≡ true
  led_opens [] p r t = absurd t.0
  led_opens (k ∷ ts) p r t =
      let w = cut ℕ A (a_sign_at s) fa (sign_at_laws s) la (λ ts e. refl) (k ∷ ts) p r t in
      let first : one_of (sign_code s ∷ []) (k ∷ ts) ≡ true = ⊎_elim (λ o. o.0) (λ o. absurd (false≢true o.1)) ((sign_at_laws s).opens (k ∷ ts) p.0 w.0 w.1) in
      let second : fa.starts w.0 ≡ true = ⊎_elim (λ o. o.0) (λ o. absurd (false≢true (sym solid ∙ o.1))) (la.opens w.0 p.1 r w.2) in
      and_from (one_of (sign_code s ∷ []) (k ∷ ts)) (fa.starts ts) first (subst (λ (l : List Token). fa.starts l ≡ true) (sym w.1.0.1) second)

  refuses_next : (m : Read A) (at : ℕ) (ts us : List Token) (l : ℕ) → fa.empties ≡ false → Refuses fa.empties us m → Refuses false ts (noting l (becoming (joined at) m))
  refuses_next (Found a q k) at ts us l e h = absurd (false≢true (sym e ∙ h.0))
  refuses_next (Stopped k) at ts us l e h = refl

  refuses_pick : (o : Option ℕ) (k : Token) (ts : List Token) → fa.starts ts ≡ false → Refuses false (k ∷ ts) (on_pick o ts >>= (λ a q. becoming (joined a) (fa.run q)))
  refuses_pick (Some u) k ts e = refuses_next (fa.run ts) u (k ∷ ts) ts (length ts) solid (la.refuses ts e)
  refuses_pick None k ts e = refl

  led_refuses : (ts : List Token) → led_at_starts A s fa ts ≡ false → Refuses (false && fa.empties) ts ((Behind A s fa).run ts)
  led_refuses [] e = refl
  led_refuses (k ∷ ts) e =
      ⊎_elim
      (λ (f : one_of (sign_code s ∷ []) (k ∷ ts) ≡ false). behind_laws.refuses (k ∷ ts) (neither (one_of (sign_code s ∷ []) (k ∷ ts)) f))
      (λ f. refuses_pick (picks_at (sign_code s) k) k ts f)
      (and_cases (one_of (sign_code s ∷ []) (k ∷ ts)) (fa.starts ts) e)
    where
      neither : (b : Bool) → b ≡ false → (b || false) ≡ false
      neither true e = e
      neither false e = e

  pub led_at_laws : Lawful (ℕ × A) (led_at A s fa)
  led_at_laws = retested_laws (ℕ × A) (Behind A s fa) (led_at_starts A s fa) fa.goes_on behind_laws
      (record { opens = λ ts p r t lt. led_opens ts p r t; refuses = led_refuses; goes_too = λ ts e. alone (fa.goes_on ts) fa.empties solid e })
    where
      alone : (b e : Bool) → e ≡ false → (b || (e && false)) ≡ true → b ≡ true
      alone true e q h = refl
      alone false true q h = h
      alone false false q h = h
