-- A value and more behind it, or a value that passes a test alone: read as it is to be.
use Rattle.std.proofs.Common.{◌≡◌, ℕ, ◌-◌, ◌+◌, ◌<◌, ◌≤◌, min, Bool, true, false, cond, List, [], ◌++◌, length, length-append, Option, Some, None, refl, sym, ap, ◌∙◌, subst, ⊎_elim, inl, arith}
use Rattle.std.proofs.lemmas.Bool.{false≢true, cond-true, cond_both, and_parts, and_from, or_parts}
use Rattle.std.proofs.lemmas.List.{append-nil}
use Rattle.std.specs.Prelude.{◌&&◌, ◌||◌}
use Rattle.jc_lexer.specs.declared.token.Token.{Token}
use Rattle.jc_grammar.specs.Told.{Told}
use Rattle.jc_reading.specs.Reading.{Read, Found, Stopped, becoming, joined, ◌>>=◌}
use Rattle.jc_reading.proofs.Steps.{Good, Goes, IsFound, Refuses, reach, Moved, Moves, Plain, good_becoming, within_becoming, goes_becoming, reach_noting, reach_becoming, takes_front}
use Rattle.jc_reading.proofs.Forms.{Form, Lawful, Stands, Begins, Opens, begins_as}
use Rattle.jc_reading.proofs.Options.{tell_some}
use Rattle.jc_reading.proofs.Pairs.{pair, pair_laws, cut, join}
use Rattle.jc_reading.specs.Reach.{Within}
use Rattle.jc_expr_laws.specs.EffectReading.{longest_passing, with_none, alone, closed_by, closing_on, closing}
use Rattle.jc_expr_laws.proofs.EffectEnds.{reach_longest, within_longest, Passing, sound_longest, goes_longest, moved_longest}

module _ (A B : Type 0) (passes : A → Bool) (fa : Form A) (fb : Form B) where
  abbrev pub tail_fits : Bool → Option B → Bool
  tail_fits ok None = ok
  tail_fits ok (Some b) = fb.fits b

  abbrev pub closing_form : Form (A × Option B)
  closing_form = record {
    tell = λ p r. fa.tell p.0 (tell_some fb.tell p.1 r);
    fits = λ p. fa.fits p.0 && tail_fits (passes p.0) p.1;
    run = closing passes fa.run fb.run;
    starts = fa.starts;
    goes_on = λ ts. (fb.starts ts || fb.goes_on ts) || fa.goes_on ts;
    empties = false;
  }

  pub record Closes : Type 0 where
    pub solid : fa.empties ≡ false
    pub solid' : fb.empties ≡ false
    pub meet : (ts : List Token) → fb.starts ts ≡ true → fa.goes_on ts ≡ false
    -- nothing goes on where no token stands
    pub quiet : fa.goes_on [] ≡ false

module _ (A B : Type 0) (passes : A → Bool) (fa : Form A) (fb : Form B) (la : Lawful A fa) (lb : Lawful B fb) (d : Closes A B passes fa fb) where
  abbrev Both : Form (A × Option B)
  Both = closing_form A B passes fa fb

  abbrev Two : Form (A × B)
  Two = pair A B fa fb

  two_laws : Lawful (A × B) Two
  two_laws = pair_laws A B fa fb la lb d.meet

  abbrev Alone : List Token → A → List Token → ℕ → Read A
  Alone ts a r l = alone passes fa.run ts a r l

  abbrev After : List Token → A → List Token → ℕ → Read B → Read (A × Option B)
  After ts a r l m = closed_by passes fa.run ts a r l m

  abbrev On : List Token → Read A → Read (A × Option B)
  On ts m = closing_on passes fa.run ts m fb.run

  -- alone, or with more behind it
  stands_alone : (ts : List Token) (a : A) (r : List Token) → Passing A passes fa la ts a r → Stands Both ts (with_none a) r
  stands_alone ts a r s = (s.0.0, and_from (fa.fits a) (passes a) s.0.1 s.1)

  stands_more : (ts m r : List Token) (a : A) (b : B) → Stands fa ts a m → Stands fb m b r → Stands Both ts (a, Some b) r
  stands_more ts m r a b s t = join A B fa fb la lb d.meet ts m r a b s t

  by_alone : (P : Read A → Type 0) (ts : List Token) (a : A) (r : List Token) (l : ℕ) → (passes a ≡ true → P (Found a r l)) → P (longest_passing passes fa.run ts l (length ts - length r)) → P (Alone ts a r l)
  by_alone P ts a r l f g = cond_both (passes a) (Found a r l) (longest_passing passes fa.run ts l (length ts - length r)) P f (λ e. g)

  appends_both : (p : A × Option B) (r : List Told) → Both.fits p ≡ true → Both.tell p r ≡ Both.tell p [] ++ r
  appends_both (a, None) r g = la.appends a r (and_parts (fa.fits a) (passes a) g).0
  appends_both (a, Some b) r g = two_laws.appends (a, b) r g

  plain_both : (p : A × Option B) → Both.fits p ≡ true → Plain (Both.tell p [])
  plain_both (a, None) g = la.plain a (and_parts (fa.fits a) (passes a) g).0
  plain_both (a, Some b) g = two_laws.plain (a, b) g

  within_after : (ts : List Token) (a : A) (r : List Token) (l : ℕ) (m : Read B) → l ≤ length r → length r ≤ length ts → Within (length r) m → Within (length ts) (After ts a r l m)
  within_after ts a r l (Found b q n) h k w = (omega (arith, w.0), omega (arith, w.1, k))
  within_after ts a r l (Stopped n) h k w =
      within_becoming (length ts) with_none (Alone ts a r (min l n))
      (by_alone (Within (length ts)) ts a r (min l n) (λ e. (omega (arith, h), k)) (within_longest A passes fa la ts (min l n) (length ts - length r) (omega (arith, h, k))))

  within_on : (ts : List Token) (m : Read A) → Within (length ts) m → Within (length ts) (On ts m)
  within_on ts (Found a r l) w = within_after ts a r l (fb.run r) w.0 w.1 (lb.within r)
  within_on ts (Stopped l) w = w

  sound_after : (ts : List Token) (a : A) (r : List Token) (l : ℕ) (m : Read B) → Stands fa ts a r → Good (Stands fb r) m → Good (Stands Both ts) (After ts a r l m)
  sound_after ts a r l (Found b q n) s g = stands_more ts r q a b s g
  sound_after ts a r l (Stopped n) s g =
      good_becoming (Passing A passes fa la ts) (Stands Both ts) with_none (Alone ts a r (min l n))
      (by_alone (Good (Passing A passes fa la ts)) ts a r (min l n) (λ e. (s, e)) (sound_longest A passes fa la ts (min l n) (length ts - length r)))
      (λ b q t. stands_alone ts b q t)

  sound_on : (ts : List Token) (m : Read A) → Good (Stands fa ts) m → Good (Stands Both ts) (On ts m)
  sound_on ts (Found a r l) g = sound_after ts a r l (fb.run r) g (lb.sound r)
  sound_on ts (Stopped l) g = tt

  -- something at least as long as a value that passes alone
  goes_after_alone : (front r : List Token) (a b : A) (q : List Token) (l : ℕ) (m : Read B) → Stands fa front a [] → passes a ≡ true → length q ≤ length r → Within (length q) m → Goes (length r) (After (front ++ r) b q l m)
  goes_after_alone front r a b q l (Found c z n) s g h w = omega (arith, h, w.1)
  goes_after_alone front r a b q l (Stopped n) s g h w =
      let e = length-append front r in
      goes_becoming (length r) with_none (Alone (front ++ r) b q (min l n))
      (by_alone (Goes (length r)) (front ++ r) b q (min l n) (λ k. h) (goes_longest A passes fa la d.quiet front r a (min l n) (length (front ++ r) - length q) s g (omega (arith, e, h))))

  goes_on_alone : (front r : List Token) (a : A) (m : Read A) → Stands fa front a [] → passes a ≡ true → Goes (length r) m → Goes (length r) (On (front ++ r) m)
  goes_on_alone front r a (Found b q l) s g h = goes_after_alone front r a b q l (fb.run q) s g h (lb.within q)
  goes_on_alone front r a (Stopped l) s g h = absurd h

  goes_more : (ts : List Token) (a : A) (r : List Token) (l k : ℕ) (m : Read B) → Goes k m → Goes k (After ts a r l m)
  goes_more ts a r l k (Found b q n) h = h
  goes_more ts a r l k (Stopped n) h = absurd h

  -- the first value is found where more stands behind it
  found_first : (ts m r : List Token) (a : A) (b : B) → Stands fa ts a m → Stands fb m b r → IsFound a m (fa.run ts)
  found_first ts m r a b s t = la.exact ts a m s (⊎_elim (λ o. d.meet m o.0) (λ o. absurd (false≢true (sym d.solid' ∙ o.1))) (lb.opens m b r t))

  longest_both : (ts : List Token) (p : A × Option B) (r : List Token) → Stands Both ts p r → Goes (length r) (On ts (fa.run ts))
  longest_both ts (a, None) r s =
      let f = and_parts (fa.fits a) (passes a) s.1 in
      let w = takes_front false (fa.tell a []) ts r s.0 in
      subst (λ (us : List Token). Goes (length r) (On us (fa.run us))) (sym w.1)
      (goes_on_alone w.0 r a (fa.run (w.0 ++ r)) (subst (λ (us : List Token). Stands fa us a []) (append-nil w.0) (w.2 [], f.0)) f.1 (la.longest (w.0 ++ r) a r (w.2 r, f.0)))
  longest_both ts (a, Some b) r s =
      let w = cut A B fa fb la lb d.meet ts (a, b) r s in
      let k = found_first ts w.0 r a b w.1 w.2 in
      subst (λ (m : Read A). Goes (length r) (On ts m)) (sym k.1) (goes_more ts a w.0 k.0 (length r) (fb.run w.0) (lb.longest w.0 b r w.2))

  found_after : (ts : List Token) (a : A) (m r : List Token) (l : ℕ) (b : B) (n : Read B) → IsFound b r n → IsFound (a, Some b) r (After ts a m l n)
  found_after ts a m r l b n f = (min l f.0, ap (λ (x : Read B). After ts a m l x) f.1)

  found_alone : (ts : List Token) (a : A) (r : List Token) (l : ℕ) (m : Read B) → Refuses fb.empties r m → passes a ≡ true → IsFound (with_none a) r (After ts a r l m)
  found_alone ts a r l (Found b q n) h g = absurd (false≢true (sym d.solid' ∙ h.0))
  found_alone ts a r l (Stopped n) h g =
      (min l n, ap (λ (m : Read A). becoming with_none m) (cond-true (passes a) (Found a r (min l n)) (longest_passing passes fa.run ts (min l n) (length ts - length r)) g))

  exact_both : (ts : List Token) (p : A × Option B) (r : List Token) → Stands Both ts p r → Both.goes_on r ≡ false → IsFound p r (On ts (fa.run ts))
  exact_both ts (a, None) r s g =
      let f = and_parts (fa.fits a) (passes a) s.1 in
      let o = or_parts (fb.starts r || fb.goes_on r) (fa.goes_on r) g in
      let k = la.exact ts a r (s.0, f.0) o.1 in
      subst (λ (m : Read A). IsFound (with_none a) r (On ts m)) (sym k.1) (found_alone ts a r k.0 (fb.run r) (lb.refuses r (or_parts (fb.starts r) (fb.goes_on r) o.0).0) f.1)
  exact_both ts (a, Some b) r s g =
      let w = cut A B fa fb la lb d.meet ts (a, b) r s in
      let o = or_parts (fb.starts r || fb.goes_on r) (fa.goes_on r) g in
      let k = found_first ts w.0 r a b w.1 w.2 in
      subst (λ (m : Read A). IsFound (a, Some b) r (On ts m)) (sym k.1) (found_after ts a w.0 r k.0 b (fb.run w.0) (lb.exact w.0 b r w.2 (or_parts (fb.starts r) (fb.goes_on r) o.0).1))

  opens_first : (ts : List Token) (a : A) (r : List Token) → Stands fa ts a r → (fa.starts ts ≡ true) × (length r < length ts)
  opens_first ts a r s = ⊎_elim (λ o. o) (λ o. absurd (false≢true (sym d.solid ∙ o.1))) (la.opens ts a r s)

  opens_both : (ts : List Token) (p : A × Option B) (r : List Token) → Stands Both ts p r → Opens Both ts r
  opens_both ts (a, None) r s = inl (opens_first ts a r (s.0, (and_parts (fa.fits a) (passes a) s.1).0))
  opens_both ts (a, Some b) r s =
      let w = cut A B fa fb la lb d.meet ts (a, b) r s in
      let o = opens_first ts a w.0 w.1 in
      let later : length r ≤ length w.0 = ⊎_elim (λ q. omega (arith, q.1)) (λ q. omega (arith, ap length q.0)) (lb.opens w.0 b r w.2) in
      inl (o.0, omega (arith, o.1, later))

  refuses_on : (ts : List Token) (m : Read A) → Refuses fa.empties ts m → Refuses false ts (On ts m)
  refuses_on ts (Found a r l) h = absurd (false≢true (sym d.solid ∙ h.0))
  refuses_on ts (Stopped l) h = refl

  reach_after : (ts : List Token) (a : A) (r : List Token) (l : ℕ) (m : Read B) → reach (After ts a r l m) ≡ min l (reach m)
  reach_after ts a r l (Found b q n) = refl
  reach_after ts a r l (Stopped n) =
      reach_becoming with_none (Alone ts a r (min l n)) ∙ by_alone (λ m. reach m ≡ min l n) ts a r (min l n) (λ e. refl) (reach_longest A passes fa la ts (min l n) (length ts - length r))

  reach_on : (ts : List Token) (m : Read A) → reach (m >>= (λ a q. becoming (joined a) (fb.run q))) ≡ reach (On ts m)
  reach_on ts (Found a r l) = reach_noting l (becoming (joined a) (fb.run r)) ∙ ap (λ k. min l k) (reach_becoming (joined a) (fb.run r)) ∙ sym (reach_after ts a r l (fb.run r))
  reach_on ts (Stopped l) = refl

  moved_none : (x y : List Token) (m n : Read A) → Moved x y m n → Moved x y (becoming (with_none {B = B}) m) (becoming with_none n)
  moved_none x y (Found a r l) (Found b s k) h = (ap with_none h.0, h.1, h.2, h.3, h.4)
  moved_none x y (Stopped l) (Stopped k) h = h
  moved_none x y (Found a r l) (Stopped k) h = absurd h
  moved_none x y (Stopped l) (Found b s k) h = absurd h

  moved_alone : (p x y : List Token) (a : A) (q : List Token) (l k : ℕ) → length q ≤ length p → l + length y ≡ k + length x → Moved x y (Alone (p ++ x) a (q ++ x) l) (Alone (p ++ y) a (q ++ y) k)
  moved_alone p x y a q l k h e =
      let n : length (p ++ x) - length (q ++ x) ≡ length p - length q = let i = length-append p x in let j = length-append q x in omega (arith, i, j) in
      let m : length (p ++ y) - length (q ++ y) ≡ length p - length q = let i = length-append p y in let j = length-append q y in omega (arith, i, j) in
      two (passes a) _ _
      (subst (λ (i : ℕ). Moved x y (longest_passing passes fa.run (p ++ x) l i) (longest_passing passes fa.run (p ++ y) k (length (p ++ y) - length (q ++ y)))) (sym n)
      (subst (λ (i : ℕ). Moved x y (longest_passing passes fa.run (p ++ x) l (length p - length q)) (longest_passing passes fa.run (p ++ y) k i)) (sym m)
      (moved_longest A passes fa la p x y l k (length p - length q) (omega arith) e)))
    where
      two : (b : Bool) (m n : Read A) → Moved x y m n → Moved x y (cond b (Found a (q ++ x) l) m) (cond b (Found a (q ++ y) k) n)
      two true m n w = (refl, q, refl, refl, e)
      two false m n w = w

  moved_after : (p x y : List Token) (a : A) (q : List Token) (l k : ℕ) (m n : Read B) → length q ≤ length p → l + length y ≡ k + length x → Moved x y m n → Moved x y (After (p ++ x) a (q ++ x) l m) (After (p ++ y) a (q ++ y) k n)
  moved_after p x y a q l k (Found b r i) (Found c s j) h e w = (ap (λ (z : B). (a, Some z)) w.0, w.1, w.2, w.3, omega (arith, e, w.4))
  moved_after p x y a q l k (Stopped i) (Stopped j) h e w =
      moved_none x y (Alone (p ++ x) a (q ++ x) (min l i)) (Alone (p ++ y) a (q ++ y) (min k j)) (moved_alone p x y a q (min l i) (min k j) h (omega (arith, e, w)))
  moved_after p x y a q l k (Found b r i) (Stopped j) h e w = absurd w
  moved_after p x y a q l k (Stopped i) (Found c s j) h e w = absurd w

  moves_on : (p x y : List Token) (m n : Read A) → Within (length (p ++ x)) m → Moves x y m n → Moves x y (On (p ++ x) m) (On (p ++ y) n)
  moves_on p x y (Found a r l) (Found b s k) w h lt =
      let u : length x < min l (reach (fb.run r)) = subst (λ (j : ℕ). length x < j) (reach_after (p ++ x) a r l (fb.run r)) lt in
      let v = h (omega (arith, u)) in
      let shorter : length v.1 ≤ length p = let i = length-append v.1 x in let j = length-append p x in omega (arith, ap length v.2, i, j, w.1) in
      let far : length x < reach (fb.run (v.1 ++ x)) = subst (λ (z : List Token). length x < reach (fb.run z)) v.2 (omega (arith, u)) in
      let g = moved_after p x y a v.1 l k (fb.run (v.1 ++ x)) (fb.run (v.1 ++ y)) shorter v.4 (lb.local v.1 x y far) in
      let g1 = subst (λ (z : List Token). Moved x y (After (p ++ x) a z l (fb.run z)) (After (p ++ y) a (v.1 ++ y) k (fb.run (v.1 ++ y)))) (sym v.2) g in
      let g2 = subst (λ (z : List Token). Moved x y (After (p ++ x) a r l (fb.run r)) (After (p ++ y) a z k (fb.run z))) (sym v.3) g1 in
      subst (λ (c : A). Moved x y (After (p ++ x) a r l (fb.run r)) (After (p ++ y) c s k (fb.run s))) v.0 g2
  moves_on p x y (Stopped l) (Stopped k) w h lt = h lt
  moves_on p x y (Found a r l) (Stopped k) w h lt =
      let u : length x < min l (reach (fb.run r)) = subst (λ (j : ℕ). length x < j) (reach_after (p ++ x) a r l (fb.run r)) lt in absurd (h (omega (arith, u)))
  moves_on p x y (Stopped l) (Found b s k) w h lt = absurd (h lt)

  pub closing_laws : Lawful (A × Option B) Both
  unfolding closing
  closing_laws = record {
    appends = appends_both;
    plain = plain_both;
    within = λ ts. within_on ts (fa.run ts) (la.within ts);
    sound = λ ts. sound_on ts (fa.run ts) (la.sound ts);
    longest = longest_both;
    exact = exact_both;
    opens = opens_both;
    refuses = λ ts g. refuses_on ts (fa.run ts) (la.refuses ts g);
    total = λ e ts. absurd (false≢true e);
    local = λ p x y. moves_on p x y (fa.run (p ++ x)) (fa.run (p ++ y)) (la.within (p ++ x)) (la.local p x y);
    begins = λ ts. subst (λ k. Begins (A × Option B) Both ts k) (reach_on ts (fa.run ts)) (begins_as (A × B) (A × Option B) Two Both (λ p. (p.0, Some p.1)) ts (reach (Two.run ts)) (λ us p z s. s) (two_laws.begins ts));
    least = record { value = (two_laws.least.value.0, Some two_laws.least.value.1); tokens = two_laws.least.tokens; spelled = two_laws.least.spelled };
  }
