-- A form that is read with room for as many parts as there are tokens.
use Rattle.std.proofs.Common.{◌≡◌, ℕ, ◌+◌, ◌<◌, ◌≤◌, Bool, true, false, List, ◌++◌, length, refl, sym, ap, ◌∙◌, subst, ⊎_elim, arith}
use Rattle.std.proofs.lemmas.Bool.{false≢true}
use Rattle.jc_lexer.specs.declared.token.Token.{Token}
use Rattle.jc_grammar.specs.Told.{Told}
use Rattle.jc_reading.specs.Reading.{Read, Found, Stopped, Run, ◌>>=◌, noting}
use Rattle.jc_reading.proofs.Steps.{Good, Moves}
use Rattle.jc_reading.proofs.Forms.{Form, Lawful, Stands}
use Rattle.jc_reading.proofs.Coded.{Coded, formed}

pub good_more : {A : Type 0} (P Q : A → List Token → Type 0) (m : Read A) → ((a : A) (r : List Token) → P a r → Q a r) → Good P m → Good Q m
good_more P Q (Found a r l) f g = f a r g
good_more P Q (Stopped l) f g = tt

-- what is read takes a token
pub takes_some : (A : Type 0) (form : Form A) → Lawful A form → form.empties ≡ false → (ts : List Token) → Good (λ a q. length q < length ts) (form.run ts)
takes_some A form la solid ts =
    good_more (Stands form ts) (λ a q. length q < length ts) (form.run ts)
    (λ a q s. ⊎_elim (λ o. o.1) (λ o. absurd (false≢true (sym solid ∙ o.1))) (la.opens ts a q s)) (la.sound ts)

pub bind_same : {A B : Type 0} (m : Read A) (f g : A → List Token → Read B) → Good (λ a q. f a q ≡ g a q) m → (m >>= f) ≡ (m >>= g)
bind_same (Found a q l) f g e = ap (noting l) e
bind_same (Stopped l) f g e = refl

module _ (V : Type 0) (tell : V → List Told → List Told) (starts goes : List ℕ) (empties : Bool) (fits : ℕ → V → Bool) (run : ℕ → Run V) (all_fits : V → Bool) where
  abbrev pub sized : ℕ → Coded V
  sized n = record { tell = tell; fits = fits n; run = run n; starts = starts; goes = goes; empties = empties }

  abbrev pub unbounded : Coded V
  unbounded = record { tell = tell; fits = all_fits; run = λ ts. run (length ts) ts; starts = starts; goes = goes; empties = empties }

  pub record Grows : Type 0 where
    pub lawful : (n : ℕ) → Lawful V (formed (sized n))
    pub up : (v : V) → all_fits v ≡ true → (n : ℕ) × (fits n v ≡ true)
    pub down : (n : ℕ) (v : V) → fits n v ≡ true → all_fits v ≡ true
    pub short : (n : ℕ) (ts : List Token) (v : V) (r : List Token) → Stands (formed unbounded) ts v r → length ts ≤ n → fits n v ≡ true
    pub fuel : (n k : ℕ) (ts : List Token) → length ts ≤ n → length ts ≤ k → run n ts ≡ run k ts

  module _ (h : Grows) where
    at_room : (ts : List Token) (v : V) (r : List Token) → Stands (formed unbounded) ts v r → Stands (formed (sized (length ts))) ts v r
    at_room ts v r s = (s.0, h.short (length ts) ts v r s (omega arith))

    moved_there : (p x y : List Token) → Moves x y (unbounded.run (p ++ x)) (unbounded.run (p ++ y))
    moved_there p x y =
        let n : ℕ = length (p ++ x) + length (p ++ y) in
        subst (λ (m : Read V). Moves x y m (unbounded.run (p ++ y))) (h.fuel n (length (p ++ x)) (p ++ x) (omega arith) (omega arith))
        (subst (λ (m : Read V). Moves x y (run n (p ++ x)) m) (h.fuel n (length (p ++ y)) (p ++ y) (omega arith) (omega arith)) ((h.lawful n).local p x y))

    pub unbounded_laws : Lawful V (formed unbounded)
    unbounded_laws = record {
      appends = λ v r g. let w = h.up v g in (h.lawful w.0).appends v r w.1;
      plain = λ v g. let w = h.up v g in (h.lawful w.0).plain v w.1;
      within = λ ts. (h.lawful (length ts)).within ts;
      sound = λ ts. good_more (Stands (formed (sized (length ts))) ts) (Stands (formed unbounded) ts) (run (length ts) ts) (λ v r s. (s.0, h.down (length ts) v s.1)) ((h.lawful (length ts)).sound ts);
      longest = λ ts v r s. (h.lawful (length ts)).longest ts v r (at_room ts v r s);
      exact = λ ts v r s g. (h.lawful (length ts)).exact ts v r (at_room ts v r s) g;
      opens = λ ts v r s. (h.lawful (length ts)).opens ts v r (at_room ts v r s);
      refuses = λ ts g. (h.lawful (length ts)).refuses ts g;
      total = λ e ts. (h.lawful (length ts)).total e ts;
      local = moved_there;
      begins = λ ts. let b = (h.lawful (length ts)).begins ts in
          record { front = b.front; back = b.back; whole = b.whole; left = b.left; value = b.value; more = b.more; spelled = λ z. ((b.spelled z).0, h.down (length ts) b.value (b.spelled z).1) };
      least = let l = (h.lawful 0).least in record { value = l.value; tokens = l.tokens; spelled = λ z. ((l.spelled z).0, h.down 0 l.value (l.spelled z).1) };
    }
