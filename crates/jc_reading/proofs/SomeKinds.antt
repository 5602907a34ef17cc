-- A token of some kinds, of which not each value of the tree that tells one has a reading.
use Rattle.std.proofs.Common.{◌≡◌, ℕ, suc, Bool, true, false, List, [], ◌∷◌, ◌++◌, length, length-append, Option, Some, None, refl, sym, ap, ◌∙◌, subst, inl, arith}
use Rattle.std.proofs.lemmas.Bool.{false≢true}
use Rattle.jc_lexer.specs.declared.token.Token.{Token}
use Rattle.jc_grammar.specs.Told.{Told}
use Rattle.jc_reading.specs.Kinds.{kind_code, is_in, one_of}
use Rattle.jc_reading.specs.Reading.{Read, Found, on_pick, picking, IsTold}
use Rattle.jc_reading.proofs.Steps.{Good, Goes, IsFound, Refuses, reach, Moves, moves_none, moves_found}
use Rattle.jc_reading.proofs.Forms.{Form, Stands, Begins, Least, Opens, Lawful, begins_start, begins_full}
use Rattle.jc_reading.specs.Reach.{Within}

module _ (A : Type 0) (codes : List ℕ) (pick : Token → Option A) (tell : A → Told) (fits : A → Bool) where
  -- a token of one of the codes, of the kinds that fit
  abbrev pub some_token : Form A
  some_token = record {
    tell = λ a r. tell a ∷ r;
    fits = fits;
    run = picking pick;
    starts = one_of codes;
    goes_on = λ ts. false;
    empties = false;
  }

-- exactly the tokens that are told are picked
pub record PicksSome (A : Type 0) (codes : List ℕ) (pick : Token → Option A) (tell : A → Told) (fits : A → Bool) : Type 0 where
  pub tells : (t : Token) (a : A) → pick t ≡ Some a → IsTold false (tell a) t
  pub fitting : (t : Token) (a : A) → pick t ≡ Some a → fits a ≡ true
  pub picks : (t : Token) (a : A) → IsTold false (tell a) t → fits a ≡ true → pick t ≡ Some a
  pub coded : (t : Token) (a : A) → pick t ≡ Some a → is_in codes (kind_code t.kind) ≡ true
  pub apart : (a : A) → (tell a).apart ≡ false
  pub sample : Token
  pub value : A
  pub sampled : pick sample ≡ Some value

module _ (A : Type 0) (codes : List ℕ) (pick : Token → Option A) (tell : A → Told) (fits : A → Bool) (h : PicksSome A codes pick tell fits) where
  abbrev One : Form A
  One = some_token A codes pick tell fits

  on_some : (t : Token) (ts : List Token) (o : Option A) → pick t ≡ o → Good (Stands One (t ∷ ts)) (on_pick o ts)
  on_some t ts (Some a) e = ((h.tells t a e, refl), h.fitting t a e)
  on_some t ts None e = tt

  within_pick : (ts : List Token) (o : Option A) → Within (suc (length ts)) (on_pick o ts)
  within_pick ts (Some a) = (omega arith, omega arith)
  within_pick ts None = omega arith

  within_token : (ts : List Token) → Within (length ts) (One.run ts)
  within_token [] = omega arith
  within_token (t ∷ ts) = within_pick ts (pick t)

  sound_token : (ts : List Token) → Good (Stands One ts) (One.run ts)
  sound_token [] = tt
  sound_token (t ∷ ts) = on_some t ts (pick t) refl

  exact_token : (ts : List Token) (a : A) (r : List Token) → Stands One ts a r → IsFound a r (One.run ts)
  exact_token [] a r s = absurd s.0
  exact_token (t ∷ ts) a r s = (length ts, ap (λ o. on_pick o ts) (h.picks t a s.0.0 s.1) ∙ ap (λ (l : List Token). Found a l (length ts)) s.0.1)

  goes_found : (a : A) (r : List Token) (m : Read A) → IsFound a r m → Goes (length r) m
  goes_found a r m f = subst (λ (v : Read A). Goes (length r) v) (sym f.1) (omega arith)

  opens_token : (ts : List Token) (a : A) (r : List Token) → Stands One ts a r → Opens One ts r
  opens_token [] a r s = absurd s.0
  opens_token (t ∷ ts) a r s = inl (h.coded t a (h.picks t a s.0.0 s.1), omega (arith, ap length s.0.1))

  refuses_pick : (t : Token) (ts : List Token) (o : Option A) → pick t ≡ o → is_in codes (kind_code t.kind) ≡ false → Refuses false (t ∷ ts) (on_pick o ts)
  refuses_pick t ts (Some a) e g = absurd (false≢true (sym g ∙ h.coded t a e))
  refuses_pick t ts None e g = refl

  refuses_token : (ts : List Token) → one_of codes ts ≡ false → Refuses false ts (One.run ts)
  refuses_token [] g = refl
  refuses_token (t ∷ ts) g = refuses_pick t ts (pick t) refl g

  moves_pick : (o : Option A) (p x y : List Token) → Moves x y (on_pick o (p ++ x)) (on_pick o (p ++ y))
  moves_pick (Some a) p x y = moves_found x y a p
  moves_pick None p x y = λ lt. omega (arith, length-append p x, length-append p y)

  local_token : (p x y : List Token) → Moves x y (One.run (p ++ x)) (One.run (p ++ y))
  local_token [] x y = moves_none x y (One.run x) (One.run y) (within_token x)
  local_token (t ∷ p) x y = moves_pick (pick t) p x y

  least_token : Least A One
  least_token = record { value = h.value; tokens = h.sample ∷ []; spelled = λ z. ((h.tells h.sample h.value h.sampled, refl), h.fitting h.sample h.value h.sampled) }

  begins_pick : (t : Token) (ts : List Token) (o : Option A) → pick t ≡ o → Begins A One (t ∷ ts) (reach (on_pick o ts))
  begins_pick t ts (Some a) e = begins_full A One (t ∷ ts) a ts ((h.tells t a e, refl), h.fitting t a e)
  begins_pick t ts None e = begins_start A One (t ∷ ts) least_token

  begins_token : (ts : List Token) → Begins A One ts (reach (One.run ts))
  begins_token [] = begins_start A One [] least_token
  begins_token (t ∷ ts) = begins_pick t ts (pick t) refl

  pub some_token_laws : Lawful A One
  some_token_laws = record {
    appends = λ a r g. refl;
    plain = λ a g. h.apart a;
    within = within_token;
    sound = sound_token;
    longest = λ ts a r s. goes_found a r (One.run ts) (exact_token ts a r s);
    exact = λ ts a r s g. exact_token ts a r s;
    opens = opens_token;
    refuses = refuses_token;
    total = λ e ts. absurd (false≢true e);
    local = local_token;
    begins = begins_token;
    least = least_token;
  }
