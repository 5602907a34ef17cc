-- Parts behind a value, each of which makes a new value of the one before it.
use Rattle.std.proofs.Common.{◌≡◌, ℕ, zero, suc, ◌+◌, ◌<◌, ◌≤◌, min, Bool, true, false, List, [], ◌∷◌, ◌++◌, length, length-append, append_assoc, refl, sym, ap, ◌∙◌, subst, ⊎_elim, ◌⊎◌, inl, inr, arith}
use Rattle.std.proofs.lemmas.Bool.{false≢true, and_parts, and_from}
use Rattle.std.specs.Prelude.{◌&&◌}
use Rattle.jc_lexer.specs.declared.token.Token.{Token}
use Rattle.jc_grammar.specs.Told.{Told}
use Rattle.jc_reading.specs.Reading.{Read, Found, Stopped, Run, noting, becoming, Takes}
use Rattle.jc_reading.proofs.Steps.{Good, Goes, IsFound, Refuses, reach, Moved, Moves, Plain, good_becoming, good_noting, within_becoming, within_noting, within_more, goes_becoming, goes_noting, goes_more, found_becoming, found_noting, reach_noting, reach_becoming, moves_becoming, moved_noting, moves_none, moves_stop, takes_cut, takes_join, takes_front, takes_length}
use Rattle.jc_reading.proofs.Forms.{Form, Stands, Begins, Opens, Lawful, begins_pick, begins_behind, begins_full, begins_as}
use Rattle.jc_reading.proofs.Lists.{tell_all}
use Rattle.jc_reading.specs.Growing.{one_then, steps}
use Rattle.jc_reading.specs.Reach.{Within}

-- the laws of a form that is never empty, and may have no value
pub record Steady (A : Type 0) (form : Form A) : Type 0 where
  pub appends : (a : A) (r : List Told) → form.fits a ≡ true → form.tell a r ≡ form.tell a [] ++ r
  pub plain : (a : A) → form.fits a ≡ true → Plain (form.tell a [])
  pub within : (ts : List Token) → Within (length ts) (form.run ts)
  pub sound : (ts : List Token) → Good (Stands form ts) (form.run ts)
  pub longest : (ts : List Token) (a : A) (r : List Token) → Stands form ts a r → Goes (length r) (form.run ts)
  pub exact : (ts : List Token) (a : A) (r : List Token) → Stands form ts a r → form.goes_on r ≡ false → IsFound a r (form.run ts)
  pub opens : (ts : List Token) (a : A) (r : List Token) → Stands form ts a r → (form.starts ts ≡ true) × (length r < length ts)
  pub refuses : (ts : List Token) → form.starts ts ≡ false → Refuses false ts (form.run ts)
  pub local : (p x y : List Token) → Moves x y (form.run (p ++ x)) (form.run (p ++ y))
  pub begins : (ts : List Token) → Begins A form ts (reach (form.run ts)) ⊎ (reach (form.run ts) ≡ length ts)

pub steady_from : (A : Type 0) (form : Form A) → Lawful A form → form.empties ≡ false → Steady A form
steady_from A form la solid = record {
  appends = la.appends;
  plain = la.plain;
  within = la.within;
  sound = la.sound;
  longest = la.longest;
  exact = la.exact;
  opens = λ ts a r s. ⊎_elim (λ o. o) (λ o. absurd (false≢true (sym solid ∙ o.1))) (la.opens ts a r s);
  refuses = λ ts g. subst (λ b. Refuses b ts (form.run ts)) solid (la.refuses ts g);
  local = la.local;
  begins = λ ts. inl (la.begins ts);
}

pub steady_void : (A : Type 0) (form : Form A) → ((ts : List Token) → form.run ts ≡ Stopped (length ts)) → ((a : A) → form.fits a ≡ false) → Steady A form
steady_void A form stops never = record {
  appends = λ a r g. absurd (false≢true (sym (never a) ∙ g));
  plain = λ a g. absurd (false≢true (sym (never a) ∙ g));
  within = λ ts. subst (λ (m : Read A). Within (length ts) m) (sym (stops ts)) (omega arith);
  sound = λ ts. subst (λ (m : Read A). Good (Stands form ts) m) (sym (stops ts)) tt;
  longest = λ ts a r s. absurd (false≢true (sym (never a) ∙ s.1));
  exact = λ ts a r s g. absurd (false≢true (sym (never a) ∙ s.1));
  opens = λ ts a r s. absurd (false≢true (sym (never a) ∙ s.1));
  refuses = λ ts g. subst (λ (m : Read A). Refuses false ts m) (sym (stops ts)) refl;
  local = λ p x y. subst (λ (m : Read A). Moves x y m (form.run (p ++ y))) (sym (stops (p ++ x))) (subst (λ (m : Read A). Moves x y (Stopped (length (p ++ x))) m) (sym (stops (p ++ y))) (moves_stop A x y p));
  begins = λ ts. inr (ap (λ (m : Read A). reach m) (stops ts));
}

module _ (V P : Type 0) (make : V → P → V) (tell : P → List Told → List Told) (fits : V → P → Bool) (run : V → Run P) (starts : V → List Token → Bool) (ends : List Token → Bool) where
  -- a part behind a value
  abbrev pub part : V → Form P
  part v = record { tell = tell; fits = fits v; run = run v; starts = starts v; goes_on = ends; empties = false }

  abbrev pub fits_from : V → List P → Bool
  fits_from v [] = true
  fits_from v (p ∷ list) = fits v p && fits_from (make v p) list

  -- parts behind a value
  abbrev pub parts : V → Form (List P)
  parts v = record { tell = tell_all tell; fits = fits_from v; run = λ ts. steps (length ts) make run v ts; starts = starts v; goes_on = ends; empties = true }

  pub record Stepping : Type 0 where
    pub steady : (v : V) → Steady P (part v)
    -- where the whole may end no part begins
    pub over : (v : V) (ts : List Token) → ends ts ≡ false → starts v ts ≡ false
    -- a part with another one behind it is found exactly
    pub next : (v : V) (ts : List Token) (p : P) (m : List Token) (q : P) (r : List Token) → Stands (part v) ts p m → Stands (part (make v p)) m q r → IsFound p m (run v ts)

module _ (V P : Type 0) (make : V → P → V) (tell : P → List Told → List Told) (fits : V → P → Bool) (run : V → Run P) (starts : V → List Token → Bool) (ends : List Token → Bool) (h : Stepping V P make tell fits run starts ends) where
  abbrev Part : V → Form P
  Part v = part V P make tell fits run starts ends v

  abbrev Parts : V → Form (List P)
  Parts v = parts V P make tell fits run starts ends v

  abbrev Told_all : List P → List Told → List Told
  Told_all list r = tell_all tell list r

  abbrev Steps_at : ℕ → V → Run (List P)
  Steps_at n v ts = steps n make run v ts

  abbrev Next : ℕ → V → P → List Token → Read (List P)
  Next n v p q = steps n make run (make v p) q

  appends_all : (v : V) (list : List P) (r : List Told) → (Parts v).fits list ≡ true → Told_all list r ≡ Told_all list [] ++ r
  appends_all v [] r g = refl
  appends_all v (p ∷ list) r g =
      let f = and_parts (fits v p) ((Parts (make v p)).fits list) g in
      ap (tell p) (appends_all (make v p) list r f.1) ∙ (h.steady v).appends p (Told_all list [] ++ r) f.0 ∙ sym (append_assoc (tell p []) (Told_all list []) r)
      ∙ ap (λ (l : List Told). l ++ r) (sym ((h.steady v).appends p (Told_all list []) f.0))

  plain_both : (x y : List Told) → Plain x → Plain y → Plain (x ++ y)
  plain_both [] y p q = q
  plain_both (d ∷ x) y p q = p

  plain_all : (v : V) (list : List P) → (Parts v).fits list ≡ true → Plain (Told_all list [])
  plain_all v [] g = tt
  plain_all v (p ∷ list) g =
      let f = and_parts (fits v p) ((Parts (make v p)).fits list) g in
      subst (λ (l : List Told). Plain l) (sym ((h.steady v).appends p (Told_all list []) f.0)) (plain_both (tell p []) (Told_all list []) ((h.steady v).plain p f.0) (plain_all (make v p) list f.1))

  pub cut_part : (v : V) (ts : List Token) (p : P) (list : List P) (r : List Token) → Stands (Parts v) ts (p ∷ list) r → (m : List Token) × Stands (Part v) ts p m × Stands (Parts (make v p)) m list r
  cut_part v ts p list r s =
      let f = and_parts (fits v p) ((Parts (make v p)).fits list) s.1 in
      let e = subst (λ (l : List Told). Takes false l ts r) ((h.steady v).appends p (Told_all list []) f.0) s.0 in
      let w = takes_cut false (tell p []) (Told_all list []) ts r e in
      (w.0, (w.1, f.0), (w.2, f.1))

  join : (v : V) (ts m r : List Token) (p : P) (list : List P) → Stands (Part v) ts p m → Stands (Parts (make v p)) m list r → Stands (Parts v) ts (p ∷ list) r
  join v ts m r p list s t =
      (subst (λ (l : List Told). Takes false l ts r) (sym ((h.steady v).appends p (Told_all list []) s.1)) (takes_join false (tell p []) (Told_all list []) ts m r (plain_all (make v p) list t.1) s.0 t.0), and_from (fits v p) ((Parts (make v p)).fits list) s.1 t.1)

  within_one : (v : V) (n : ℕ) (ts : List Token) (m : Read P) → Within (length ts) m → ((p : P) (q : List Token) → Within (length q) (Next n v p q)) → Within (length ts) (one_then ts m (Next n v))
  within_one v n ts (Found p q l) w f = within_noting l (length ts) (becoming (λ more. p ∷ more) (Next n v p q)) (within_more (length q) (length ts) _ w.1 (within_becoming (length q) (λ more. p ∷ more) (Next n v p q) (f p q)))
  within_one v n ts (Stopped l) w f = (w, omega arith)

  within_steps : (n : ℕ) (v : V) (ts : List Token) → Within (length ts) (Steps_at n v ts)
  unfolding steps
  within_steps zero v ts = (omega arith, omega arith)
  within_steps (suc n) v ts = within_one v n ts (run v ts) ((h.steady v).within ts) (λ p q. within_steps n (make v p) q)

  sound_one : (v : V) (n : ℕ) (ts : List Token) (m : Read P) → Good (Stands (Part v) ts) m → ((p : P) (q : List Token) → Good (Stands (Parts (make v p)) q) (Next n v p q)) → Good (Stands (Parts v) ts) (one_then ts m (Next n v))
  sound_one v n ts (Found p q l) s f = good_noting (Stands (Parts v) ts) l (becoming (λ more. p ∷ more) (Next n v p q)) (good_becoming (Stands (Parts (make v p)) q) (Stands (Parts v) ts) (λ more. p ∷ more) (Next n v p q) (f p q) (λ list r t. join v ts q r p list s t))
  sound_one v n ts (Stopped l) s f = (refl, refl)

  sound_steps : (n : ℕ) (v : V) (ts : List Token) → Good (Stands (Parts v) ts) (Steps_at n v ts)
  unfolding steps
  sound_steps zero v ts = (refl, refl)
  sound_steps (suc n) v ts = sound_one v n ts (run v ts) ((h.steady v).sound ts) (λ p q. sound_steps n (make v p) q)

  goes_one : (v : V) (n : ℕ) (ts : List Token) (m : Read P) → Within (length ts) m → ((p : P) (q : List Token) → Goes (length q) (Next n v p q)) → Goes (length ts) (one_then ts m (Next n v))
  goes_one v n ts (Found p q l) w f = goes_noting l (length ts) (becoming (λ more. p ∷ more) (Next n v p q)) (goes_more (length q) (length ts) _ w.1 (goes_becoming (length q) (λ more. p ∷ more) (Next n v p q) (f p q)))
  goes_one v n ts (Stopped l) w f = omega arith

  goes_steps : (n : ℕ) (v : V) (ts : List Token) → Goes (length ts) (Steps_at n v ts)
  unfolding steps
  goes_steps zero v ts = omega arith
  goes_steps (suc n) v ts = goes_one v n ts (run v ts) ((h.steady v).within ts) (λ p q. goes_steps n (make v p) q)

  -- behind one that is found exactly
  goes_next : (v : V) (n k : ℕ) (ts q : List Token) (p : P) (m : Read P) → IsFound p q m → Goes k (Next n v p q) → Goes k (one_then ts m (Next n v))
  goes_next v n k ts q p m f g = subst (λ (u : Read P). Goes k (one_then ts u (Next n v))) (sym f.1) (goes_noting f.0 k (becoming (λ more. p ∷ more) (Next n v p q)) (goes_becoming k (λ more. p ∷ more) (Next n v p q) g))

  goes_last : (v : V) (n k : ℕ) (ts : List Token) (m : Read P) → Goes k m → ((p : P) (q : List Token) → Goes (length q) (Next n v p q)) → Goes k (one_then ts m (Next n v))
  goes_last v n k ts (Found p q l) g f = goes_noting l k (becoming (λ more. p ∷ more) (Next n v p q)) (goes_more (length q) k _ g (goes_becoming (length q) (λ more. p ∷ more) (Next n v p q) (f p q)))
  goes_last v n k ts (Stopped l) g f = absurd g

  longest_steps : (n : ℕ) (v : V) (ts : List Token) (list : List P) (r : List Token) → length ts ≤ n → Stands (Parts v) ts list r → Goes (length r) (Steps_at n v ts)
  unfolding steps
  longest_steps n v ts [] r e s = subst (λ (l : List Token). Goes (length l) (Steps_at n v ts)) s.0 (goes_steps n v ts)
  longest_steps zero v ts (p ∷ list) r e s = let w = cut_part v ts p list r s in let lt = ((h.steady v).opens ts p w.0 w.1).1 in absurd (omega (arith, lt, e))
  longest_steps (suc n) v ts (p ∷ []) r e s =
      let w = cut_part v ts p [] r s in
      goes_last v n (length r) ts (run v ts) (subst (λ (l : List Token). Goes (length l) (run v ts)) w.2.0 ((h.steady v).longest ts p w.0 w.1)) (λ q m. goes_steps n (make v q) m)
  longest_steps (suc n) v ts (p ∷ b ∷ list) r e s =
      let w = cut_part v ts p (b ∷ list) r s in
      let lt = ((h.steady v).opens ts p w.0 w.1).1 in
      let u = cut_part (make v p) w.0 b list r w.2 in
      goes_next v n (length r) ts w.0 p (run v ts) (h.next v ts p w.0 b u.0 w.1 u.1) (longest_steps n (make v p) w.0 (b ∷ list) r (omega (arith, lt, e)) w.2)

  none_one : (v : V) (n : ℕ) (ts : List Token) (m : Read P) → Refuses false ts m → IsFound [] ts (one_then ts m (Next n v))
  none_one v n ts (Found p q l) k = absurd (false≢true k.0)
  none_one v n ts (Stopped l) k = (l, refl)

  found_none : (n : ℕ) (v : V) (ts : List Token) → starts v ts ≡ false → IsFound [] ts (Steps_at n v ts)
  unfolding steps
  found_none zero v ts g = (length ts, refl)
  found_none (suc n) v ts g = none_one v n ts (run v ts) ((h.steady v).refuses ts g)

  found_next : (v : V) (n : ℕ) (ts q r : List Token) (p : P) (list : List P) (m : Read P) → IsFound p q m → IsFound list r (Next n v p q) → IsFound (p ∷ list) r (one_then ts m (Next n v))
  found_next v n ts q r p list m f g =
      let w = found_noting f.0 (p ∷ list) r (becoming (λ more. p ∷ more) (Next n v p q)) (found_becoming (λ more. p ∷ more) list r (Next n v p q) g) in
      (w.0, ap (λ (u : Read P). one_then ts u (Next n v)) f.1 ∙ w.1)

  exact_steps : (n : ℕ) (v : V) (ts : List Token) (list : List P) (r : List Token) → length ts ≤ n → Stands (Parts v) ts list r → ends r ≡ false → IsFound list r (Steps_at n v ts)
  unfolding steps
  exact_steps n v ts [] r e s g = subst (λ (l : List Token). IsFound [] l (Steps_at n v ts)) s.0 (found_none n v ts (subst (λ (l : List Token). starts v l ≡ false) (sym s.0) (h.over v r g)))
  exact_steps zero v ts (p ∷ list) r e s g = let w = cut_part v ts p list r s in let lt = ((h.steady v).opens ts p w.0 w.1).1 in absurd (omega (arith, lt, e))
  exact_steps (suc n) v ts (p ∷ []) r e s g =
      let w = cut_part v ts p [] r s in
      found_next v n ts w.0 r p [] (run v ts) ((h.steady v).exact ts p w.0 w.1 (subst (λ (l : List Token). ends l ≡ false) (sym w.2.0) g))
      (subst (λ (l : List Token). IsFound [] l (Next n v p w.0)) w.2.0 (found_none n (make v p) w.0 (subst (λ (l : List Token). starts (make v p) l ≡ false) (sym w.2.0) (h.over (make v p) r g))))
  exact_steps (suc n) v ts (p ∷ b ∷ list) r e s g =
      let w = cut_part v ts p (b ∷ list) r s in
      let lt = ((h.steady v).opens ts p w.0 w.1).1 in
      let u = cut_part (make v p) w.0 b list r w.2 in
      found_next v n ts w.0 r p (b ∷ list) (run v ts) (h.next v ts p w.0 b u.0 w.1 u.1) (exact_steps n (make v p) w.0 (b ∷ list) r (omega (arith, lt, e)) w.2 g)

  opens_steps : (v : V) (ts : List Token) (list : List P) (r : List Token) → Stands (Parts v) ts list r → Opens (Parts v) ts r
  opens_steps v ts [] r s = inr (s.0, refl)
  opens_steps v ts (p ∷ list) r s =
      let w = cut_part v ts p list r s in
      let o = (h.steady v).opens ts p w.0 w.1 in
      inl (o.0, omega (arith, o.1, takes_length false (Told_all list []) w.0 r w.2.0))

  refuses_steps : (ts : List Token) (m : Read (List P)) → IsFound [] ts m → Refuses true ts m
  refuses_steps ts m f = subst (λ (v : Read (List P)). Refuses true ts v) (sym f.1) (refl, refl)

  moves_one : (v : V) (i j : ℕ) (x y p : List Token) (m n : Read P) → Within (length (p ++ x)) m → Good (λ a r. length r < length (p ++ x)) m → Moves x y m n → ((a : P) (q : List Token) → length q < length p → Moves x y (Next i v a (q ++ x)) (Next j v a (q ++ y))) → Moves x y (one_then (p ++ x) m (Next i v)) (one_then (p ++ y) n (Next j v))
  moves_one v i j x y p (Found a r l) (Found b s k) wi gd mv f lt =
      let u : length x < min l (reach (Next i v a r)) = subst (λ (z : ℕ). length x < z) (reach_noting l (becoming (λ more. a ∷ more) (Next i v a r)) ∙ ap (λ z. min l z) (reach_becoming (λ more. a ∷ more) (Next i v a r))) lt in
      let w = mv (omega arith) in
      let less : length w.1 < length p = omega (arith, ap length w.2, length-append w.1 x, length-append p x, gd) in
      moved_two a b r s w.1 l k w.0 w.2 w.3 w.4 (f a w.1 less) (omega arith)
    where
      moved_two : (a b : P) (r s q : List Token) (l k : ℕ) → a ≡ b → r ≡ q ++ x → s ≡ q ++ y → l + length y ≡ k + length x → Moves x y (Next i v a (q ++ x)) (Next j v a (q ++ y)) → length x < reach (Next i v a r) → Moved x y (noting l (becoming (λ more. a ∷ more) (Next i v a r))) (noting k (becoming (λ more. b ∷ more) (Next j v b s)))
      moved_two a b r s q l k ab rq sq e mv lt =
          let lt' = subst (λ (z : List Token). length x < reach (Next i v a z)) rq lt in
          let lt'' = subst (λ (z : ℕ). length x < z) (sym (reach_becoming (λ more. a ∷ more) (Next i v a (q ++ x)))) lt' in
          let m = moved_noting x y l k (becoming (λ more. a ∷ more) (Next i v a (q ++ x))) (becoming (λ more. a ∷ more) (Next j v a (q ++ y))) e (moves_becoming x y (λ more. a ∷ more) (Next i v a (q ++ x)) (Next j v a (q ++ y)) mv lt'') in
          let m1 = subst (λ (z : List Token). Moved x y (noting l (becoming (λ more. a ∷ more) (Next i v a z))) (noting k (becoming (λ more. a ∷ more) (Next j v a (q ++ y))))) (sym rq) m in
          let m2 = subst (λ (z : List Token). Moved x y (noting l (becoming (λ more. a ∷ more) (Next i v a r))) (noting k (becoming (λ more. a ∷ more) (Next j v a z)))) (sym sq) m1 in
          subst (λ (c : P). Moved x y (noting l (becoming (λ more. a ∷ more) (Next i v a r))) (noting k (becoming (λ more. c ∷ more) (Next j v c s)))) ab m2
  moves_one v i j x y p (Stopped l) (Stopped k) wi gd mv f lt = (refl, p, refl, refl, mv lt)
  moves_one v i j x y p (Found a r l) (Stopped k) wi gd mv f lt =
      let u : length x < min l (reach (Next i v a r)) = subst (λ (z : ℕ). length x < z) (reach_noting l (becoming (λ more. a ∷ more) (Next i v a r)) ∙ ap (λ z. min l z) (reach_becoming (λ more. a ∷ more) (Next i v a r))) lt in absurd (mv (omega arith))
  moves_one v i j x y p (Stopped l) (Found b s k) wi gd mv f lt = absurd (mv lt)

  less : (v : V) (ts : List Token) (m : Read P) → Good (Stands (Part v) ts) m → Good (λ a r. length r < length ts) m
  less v ts (Found p r l) g = ((h.steady v).opens ts p r g).1
  less v ts (Stopped l) g = tt

  local_steps : (n k : ℕ) (v : V) (p x y : List Token) → length (p ++ x) ≤ n → length (p ++ y) ≤ k → Moves x y (Steps_at n v (p ++ x)) (Steps_at k v (p ++ y))
  unfolding steps
  local_steps zero k v [] x y e f = moves_none x y (Steps_at zero v x) (Steps_at k v y) (within_steps zero v x)
  local_steps zero k v (t ∷ p) x y e f = absurd (omega arith)
  local_steps (suc n) zero v [] x y e f = moves_none x y (Steps_at (suc n) v x) (Steps_at zero v y) (within_steps (suc n) v x)
  local_steps (suc n) zero v (t ∷ p) x y e f = absurd (omega arith)
  local_steps (suc n) (suc k) v p x y e f =
      moves_one v n k x y p (run v (p ++ x)) (run v (p ++ y)) ((h.steady v).within (p ++ x)) (less v (p ++ x) (run v (p ++ x)) ((h.steady v).sound (p ++ x))) ((h.steady v).local p x y)
      (λ a q lt. local_steps n k (make v a) q x y (omega (arith, length-append q x, length-append p x)) (omega (arith, length-append q y, length-append p y)))

  begins_first : (v : V) (ts : List Token) (l : ℕ) → Begins P (Part v) ts l ⊎ (l ≡ length ts) → Begins (List P) (Parts v) ts l
  begins_first v ts l (inl b) = begins_as P (List P) (Part v) (Parts v) (λ a. a ∷ []) ts l (λ us a z s. join v us z z a [] s (refl, refl)) b
  begins_first v ts l (inr e) = subst (λ k. Begins (List P) (Parts v) ts k) (sym e) (begins_full (List P) (Parts v) ts [] ts (refl, refl))

  begins_one : (v : V) (n : ℕ) (ts : List Token) (m : Read P) → Begins P (Part v) ts (reach m) ⊎ (reach m ≡ length ts) → Good (Stands (Part v) ts) m → ((p : P) (q : List Token) → length q < length ts → Begins (List P) (Parts (make v p)) q (reach (Next n v p q))) → Begins (List P) (Parts v) ts (reach (one_then ts m (Next n v)))
  begins_one v n ts (Found p q l) b g f =
      let t = takes_front false (tell p []) ts q g.0 in
      let same : reach (noting l (becoming (λ more. p ∷ more) (Next n v p q))) ≡ min l (reach (Next n v p q)) =
      reach_noting l (becoming (λ more. p ∷ more) (Next n v p q)) ∙ ap (λ k. min l k) (reach_becoming (λ more. p ∷ more) (Next n v p q)) in
      subst (λ k. Begins (List P) (Parts v) ts k) (sym same)
      (begins_pick (List P) (Parts v) ts l (reach (Next n v p q)) (begins_first v ts l b)
      (begins_behind (List P) (List P) (Parts (make v p)) (Parts v) (λ list. p ∷ list) t.0 q ts (reach (Next n v p q)) t.1 (λ us list z s. join v (t.0 ++ us) us z p list (t.2 us, g.1) s) (f p q (((h.steady v).opens ts p q g).1))))
  begins_one v n ts (Stopped l) b g f = begins_first v ts l b

  begins_steps : (n : ℕ) (v : V) (ts : List Token) → length ts ≤ n → Begins (List P) (Parts v) ts (reach (Steps_at n v ts))
  unfolding steps
  begins_steps zero v ts e = begins_full (List P) (Parts v) ts [] ts (refl, refl)
  begins_steps (suc n) v ts e = begins_one v n ts (run v ts) ((h.steady v).begins ts) ((h.steady v).sound ts) (λ p q lt. begins_steps n (make v p) q (omega (arith, lt, e)))

  pub parts_laws : (v : V) → Lawful (List P) (Parts v)
  parts_laws v = record {
    appends = appends_all v;
    plain = plain_all v;
    within = λ ts. within_steps (length ts) v ts;
    sound = λ ts. sound_steps (length ts) v ts;
    longest = λ ts list r s. longest_steps (length ts) v ts list r (omega arith) s;
    exact = λ ts list r s g. exact_steps (length ts) v ts list r (omega arith) s g;
    opens = opens_steps v;
    refuses = λ ts g. refuses_steps ts ((Parts v).run ts) (found_none (length ts) v ts g);
    total = λ e ts. goes_steps (length ts) v ts;
    local = λ p x y. local_steps (length (p ++ x)) (length (p ++ y)) v p x y (omega arith) (omega arith);
    begins = λ ts. begins_steps (length ts) v ts (omega arith);
    least = record { value = []; tokens = []; spelled = λ z. (refl, refl) };
  }
