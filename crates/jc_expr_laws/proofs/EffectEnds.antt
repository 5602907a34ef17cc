-- The longest value of some tokens that passes a test.
use Rattle.std.proofs.Common.{◌≡◌, ℕ, zero, suc, ◌+◌, ◌<◌, ◌≤◌, Bool, true, false, cond, List, [], ◌∷◌, ◌++◌, length, length-append, refl, sym, ap, ◌∙◌, subst, ⊎_elim, arith}
use Rattle.std.proofs.lemmas.Bool.{cond-true, cond_both, cases_lt}
use Rattle.std.proofs.lemmas.List.{append-nil, take-append-drop, take-append-le, drop-append-le, length-drop}
use Rattle.std.proofs.Math.Seq.{take-append_seam}
use Rattle.std.specs.Prelude.{take, drop}
use Rattle.jc_lexer.specs.declared.token.Token.{Token}
use Rattle.jc_reading.specs.Reading.{Read, Found, Stopped, Takes}
use Rattle.jc_reading.proofs.Steps.{Good, Goes, reach, Moved, takes_front}
use Rattle.jc_reading.proofs.Forms.{Form, Lawful, Stands}
use Rattle.jc_reading.specs.Reach.{Within}
use Rattle.jc_expr_laws.specs.EffectReading.{ended, longest_passing}

module _ (A : Type 0) (passes : A → Bool) where
  -- where a value takes all of a front and passes, and where not
  by_ended : (P : Read A → Type 0) (m : Read A) (rest : List Token) (l : ℕ) (shorter : Read A) → ((a : A) (n : ℕ) → m ≡ Found a [] n → passes a ≡ true → P (Found a rest l)) → P shorter → P (ended passes m rest l shorter)
  by_ended P (Found a [] n) rest l shorter f g = cond_both (passes a) (Found a rest l) shorter P (λ e. f a n refl e) (λ e. g)
  by_ended P (Found a (t ∷ ts) n) rest l shorter f g = g
  by_ended P (Stopped n) rest l shorter f g = g

  found_ended : (a : A) (n : ℕ) (m : Read A) (rest : List Token) (l : ℕ) (shorter : Read A) → m ≡ Found a [] n → passes a ≡ true → ended passes m rest l shorter ≡ Found a rest l
  found_ended a n m rest l shorter e g = ap (λ (x : Read A). ended passes x rest l shorter) e ∙ cond-true (passes a) (Found a rest l) shorter g

  moved_if : (b : Bool) (x y : List Token) (l k : ℕ) (a : A) (q rest back : List Token) (m n : Read A) → rest ≡ q ++ x → back ≡ q ++ y → l + length y ≡ k + length x → Moved x y m n → Moved x y (cond b (Found a rest l) m) (cond b (Found a back k) n)
  moved_if true x y l k a q rest back m n e f g h = (refl, q, e, f, g)
  moved_if false x y l k a q rest back m n e f g h = h

  moved_ended : (x y : List Token) (l k : ℕ) (it : Read A) (q rest back : List Token) (m n : Read A) → rest ≡ q ++ x → back ≡ q ++ y → l + length y ≡ k + length x → Moved x y m n → Moved x y (ended passes it rest l m) (ended passes it back k n)
  moved_ended x y l k (Found a [] j) q rest back m n e f g h = moved_if (passes a) x y l k a q rest back m n e f g h
  moved_ended x y l k (Found a (t ∷ ts) j) q rest back m n e f g h = h
  moved_ended x y l k (Stopped j) q rest back m n e f g h = h

  module _ (fa : Form A) (la : Lawful A fa) where
    abbrev Longest : List Token → ℕ → ℕ → Read A
    Longest ts l k = longest_passing passes fa.run ts l k

    pub reach_longest : (ts : List Token) (l k : ℕ) → reach (Longest ts l k) ≡ l
    unfolding longest_passing
    reach_longest ts l zero = by_ended (λ m. reach m ≡ l) (fa.run []) ts l (Stopped l) (λ a n e g. refl) refl
    reach_longest ts l (suc k) = by_ended (λ m. reach m ≡ l) (fa.run (take (suc k) ts)) (drop (suc k) ts) l (Longest ts l k) (λ a n e g. refl) (reach_longest ts l k)

    pub within_longest : (ts : List Token) (l k : ℕ) → l + k ≤ length ts → Within (length ts) (Longest ts l k)
    unfolding longest_passing
    within_longest ts l zero h = by_ended (Within (length ts)) (fa.run []) ts l (Stopped l) (λ a n e g. (omega (arith, h), omega arith)) (omega (arith, h))
    within_longest ts l (suc k) h =
        by_ended (Within (length ts)) (fa.run (take (suc k) ts)) (drop (suc k) ts) l (Longest ts l k)
        (λ a n e g. let d = length-drop (suc k) ts in (omega (arith, d, h), omega (arith, d))) (within_longest ts l k (omega (arith, h)))

    -- a value of a front stands before the rest too
    lifted : (front back : List Token) (a : A) → Stands fa front a [] → Stands fa (front ++ back) a back
    lifted front back a s =
        let w = takes_front false (fa.tell a []) front [] s.0 in
        (subst (λ (f : List Token). Takes false (fa.tell a []) (f ++ back) back) (sym (w.1 ∙ append-nil w.0)) (w.2 back), s.1)

    abbrev pub Passing : List Token → A → List Token → Type 0
    Passing ts a r = Stands fa ts a r × (passes a ≡ true)

    stands_at : (front : List Token) (a : A) (n : ℕ) → fa.run front ≡ Found a [] n → Stands fa front a []
    stands_at front a n e = subst (λ (m : Read A). Good (Stands fa front) m) e (la.sound front)

    pub sound_longest : (ts : List Token) (l k : ℕ) → Good (Passing ts) (Longest ts l k)
    unfolding longest_passing
    sound_longest ts l zero = by_ended (Good (Passing ts)) (fa.run []) ts l (Stopped l) (λ a n e g. (lifted [] ts a (stands_at [] a n e), g)) tt
    sound_longest ts l (suc k) =
        by_ended (Good (Passing ts)) (fa.run (take (suc k) ts)) (drop (suc k) ts) l (Longest ts l k)
        (λ a n e g. (subst (λ (us : List Token). Stands fa us a (drop (suc k) ts)) (take-append-drop (suc k) ts) (lifted (take (suc k) ts) (drop (suc k) ts) a (stands_at (take (suc k) ts) a n e)), g)) (sound_longest ts l k)

    module _ (quiet : fa.goes_on [] ≡ false) where
      -- something at least as long as each that passes
      pub goes_longest : (front r : List Token) (a : A) (l k : ℕ) → Stands fa front a [] → passes a ≡ true → length front ≤ k → Goes (length r) (Longest (front ++ r) l k)
      unfolding longest_passing
      goes_longest [] r a l zero s g h =
          let w = la.exact [] a [] s quiet in
          subst (λ (m : Read A). Goes (length r) m) (sym (found_ended a w.0 (fa.run []) r l (Stopped l) w.1 g)) (omega arith)
      goes_longest (t ∷ front) r a l zero s g h = absurd (omega (arith, h))
      goes_longest front r a l (suc k) s g h =
          ⊎_elim
          (λ (lt : length front < suc k).
          by_ended (Goes (length r)) (fa.run (take (suc k) (front ++ r))) (drop (suc k) (front ++ r)) l (Longest (front ++ r) l k)
          (λ b n e p. let d = length-drop (suc k) (front ++ r) in let w = length-append front r in omega (arith, d, w, lt))
          (goes_longest front r a l k s g (omega (arith, lt))))
          (λ (le : suc k ≤ length front).
          let same : length front ≡ suc k = omega (arith, le, h) in
          let e : take (suc k) (front ++ r) ≡ front = ap (λ (n : ℕ). take n (front ++ r)) (sym same) ∙ take-append_seam front r in
          let w = la.exact front a [] s quiet in
          let d = length-drop (suc k) (front ++ r) in
          let w' = length-append front r in
          subst (λ (m : Read A). Goes (length r) m)
          (sym (found_ended a w.0 (fa.run (take (suc k) (front ++ r))) (drop (suc k) (front ++ r)) l (Longest (front ++ r) l k) (ap fa.run e ∙ w.1) g)) (omega (arith, d, w', same)))
          (cases_lt (length front) (suc k))

    -- the same before x and before y
    pub moved_longest : (p x y : List Token) (l j k : ℕ) → k ≤ length p → l + length y ≡ j + length x → Moved x y (Longest (p ++ x) l k) (Longest (p ++ y) j k)
    unfolding longest_passing
    moved_longest p x y l j zero h e = moved_ended x y l j (fa.run []) p (p ++ x) (p ++ y) (Stopped l) (Stopped j) refl refl e e
    moved_longest p x y l j (suc k) h e =
        let front : take (suc k) (p ++ y) ≡ take (suc k) (p ++ x) = take-append-le (suc k) p y h ∙ sym (take-append-le (suc k) p x h) in
        subst (λ (us : List Token). Moved x y (Longest (p ++ x) l (suc k)) (ended passes (fa.run us) (drop (suc k) (p ++ y)) j (Longest (p ++ y) j k))) (sym front)
        (moved_ended x y l j (fa.run (take (suc k) (p ++ x))) (drop (suc k) p) (drop (suc k) (p ++ x)) (drop (suc k) (p ++ y)) (Longest (p ++ x) l k) (Longest (p ++ y) j k)
        (drop-append-le (suc k) p x h) (drop-append-le (suc k) p y h) e (moved_longest p x y l j k (omega (arith, h)) e))
