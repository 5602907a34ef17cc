-- What a reader answers, by places in the whole list of tokens.
use Rattle.std.proofs.Common.{◌≡◌, ℕ, ◌+◌, ◌-◌, ◌<◌, ◌≤◌, Bool, List, [], ◌∷◌, ◌++◌, length, take, drop, length-append, length-drop, refl, sym, ap, ◌∙◌, subst, arith}
use Rattle.std.proofs.lemmas.List.{take-append-drop, append-nil}
use Rattle.std.proofs.Math.Seq.{take-append_seam}
use Rattle.jc_lexer.specs.declared.token.Token.{Token}
use Rattle.jc_grammar.specs.Told.{Told}
use Rattle.jc_grammar.specs.Spelling.{AreTold}
use Rattle.jc_reading.specs.Reading.{Read, Found, Stopped, Takes}
use Rattle.jc_reading.proofs.Steps.{Good, Goes, reach, Moved}
use Rattle.jc_reading.proofs.Forms.{Form, Stands, Begins, Lawful}
use Rattle.jc_reading.specs.Reach.{Within}

-- tokens taken one by one are a front that is as told
pub told_front : (b : Bool) (told : List Told) (ts r : List Token) → Takes b told ts r → (front : List Token) × (ts ≡ front ++ r) × AreTold b told front
told_front b [] ts r h = ([], h, tt)
told_front b (d ∷ told) [] r h = absurd h
told_front b (d ∷ told) (t ∷ ts) r h =
    let w = told_front _ told ts r h.1 in
    (t ∷ w.0, ap (λ (l : List Token). t ∷ l) w.1, (h.0.0, h.0.1, h.0.2, h.0.3, w.2))

takes_all : (b : Bool) (told : List Told) (front r : List Token) → AreTold b told front → Takes b told (front ++ r) r
takes_all b [] [] r h = refl
takes_all b [] (t ∷ front) r h = absurd h
takes_all b (d ∷ told) [] r h = absurd h
takes_all b (d ∷ told) (t ∷ front) r h = ((h.0, h.1, h.2, h.3), takes_all _ told front r h.4)

pub takes_front : (b : Bool) (told : List Told) (ts front r : List Token) → ts ≡ front ++ r → AreTold b told front → Takes b told ts r
takes_front b told ts front r e h = subst (λ (l : List Token). Takes b told l r) (sym e) (takes_all b told front r h)

module _ (A : Type 0) (form : Form A) (la : Lawful A form) (P : List Token → A → List Token → Type 0) (to : (ts : List Token) (a : A) (r : List Token) → Stands form ts a r → P ts a r) (from : (ts : List Token) (a : A) (r : List Token) → P ts a r → Stands form ts a r) where
  abbrev SomeBegins : List Token → Type 0
  SomeBegins p = (a : A) × (more : List Token) × P (p ++ more) a []

  abbrev NoneBegins : List Token → Type 0
  NoneBegins p = (a : A) (more : List Token) → P (p ++ more) a [] → ⊥

  pub seen : (ts : List Token) (a : A) (r : List Token) (l : ℕ) → form.run ts ≡ Found a r l → P ts a r
  seen ts a r l e = to ts a r (subst (λ (m : Read A). Good (Stands form ts) m) e (la.sound ts))

  pub farthest : (ts : List Token) (a : A) (r : List Token) (l : ℕ) → form.run ts ≡ Found a r l → (b : A) (s : List Token) → P ts b s → length r ≤ length s
  farthest ts a r l e b s p = subst (λ (m : Read A). Goes (length s) m) e (la.longest ts b s (from ts b s p))

  pub nothing : (ts : List Token) (l : ℕ) → form.run ts ≡ Stopped l → (b : A) (s : List Token) → P ts b s → ⊥
  nothing ts l e b s p = subst (λ (m : Read A). Goes (length s) m) e (la.longest ts b s (from ts b s p))

  pub bounds : (ts : List Token) (a : A) (r : List Token) (l : ℕ) → form.run ts ≡ Found a r l → (l ≤ length r) × (length r ≤ length ts)
  bounds ts a r l e = subst (λ (m : Read A). Within (length ts) m) e (la.within ts)

  pub bound : (ts : List Token) (l : ℕ) → form.run ts ≡ Stopped l → l ≤ length ts
  bound ts l e = subst (λ (m : Read A). Within (length ts) m) e (la.within ts)

  beyond : (x more p : List Token) (m n : Read A) → Within (length (p ++ x)) m → length x < reach m → Moved x more m n → Goes 0 n → ⊥
  beyond x more p (Found a r l) (Found b s k) w lt mv g = omega (arith, ap length mv.2, ap length mv.3, length-append mv.1 x, length-append mv.1 more, w.0, g, lt)
  beyond x more p (Stopped l) (Stopped k) w lt mv g = g
  beyond x more p (Found a r l) (Stopped k) w lt mv g = g
  beyond x more p (Stopped l) (Found b s k) w lt mv g = mv

  none_past : (p x : List Token) → length x < reach (form.run (p ++ x)) → NoneBegins p
  none_past p x lt a more q =
      beyond x more p (form.run (p ++ x)) (form.run (p ++ more)) (la.within (p ++ x)) lt (la.local p x more lt) (la.longest (p ++ more) a [] (from (p ++ more) a [] q))

  some_before : (rest : List Token) (n : ℕ) → Begins A form rest (reach (form.run rest)) → n + reach (form.run rest) ≡ length rest → SomeBegins (take n rest)
  some_before rest n b e =
      let l : n ≡ length b.front = omega (arith, ap length b.whole, length-append b.front b.back, b.left, e) in
      let t : take n rest ≡ b.front = ap (λ i. take i rest) l ∙ ap (take (length b.front)) b.whole ∙ take-append_seam b.front b.back in
      let s = subst (λ (z : List Token). Stands form (b.front ++ z) b.value []) (append-nil b.more) (b.spelled []) in
      (b.value, b.more, to (take n rest ++ b.more) b.value [] (subst (λ (z : List Token). Stands form (z ++ b.more) b.value []) (sym t) s))

  -- the reach, where rest is what stands from a place on
  pub is_reach : (whole rest : List Token) (at : ℕ) → at ≤ length whole → rest ≡ drop at whole → (left : ℕ) → reach (form.run rest) ≡ left → left ≤ length rest →
      (at ≤ length whole - left) × (length whole - left ≤ length whole) × SomeBegins (take (length whole - left - at) (drop at whole)) × (length whole - left < length whole → NoneBegins (take (length whole - left + 1 - at) (drop at whole)))
  is_reach whole rest at in_range back left e l =
      let r : length rest ≡ length whole - at = ap length back ∙ length-drop at whole in
      let n = length whole - left + 1 - at in
      let d = drop at whole in (
        omega (arith, r, l, in_range),
        omega arith,
        subst (λ (z : List Token). SomeBegins (take (length whole - left - at) z)) back (some_before rest (length whole - left - at) (la.begins rest) (omega (arith, e, l, r, in_range))),
        λ some.
            let x = drop n d in
            let k : length x ≡ length d - n = length-drop n d in
            let ld : length d ≡ length whole - at = length-drop at whole in
            let w : take n d ++ x ≡ rest = take-append-drop n d ∙ sym back in
            let lt : length x < reach (form.run (take n d ++ x)) = subst (λ (j : ℕ). length x < j) (sym (ap (λ (l : List Token). reach (form.run l)) w ∙ e)) (omega (arith, k, ld, r, some, l, in_range)) in
            none_past (take n d) x lt,
      )
