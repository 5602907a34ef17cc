-- One form and then another.
use Rattle.std.proofs.Common.{◌≡◌, ℕ, ◌≤◌, min, Bool, true, false, List, [], ◌∷◌, ◌++◌, length, append_assoc, sym, ap, ◌∙◌, subst, ⊎_elim, inl, inr, arith}
use Rattle.std.proofs.lemmas.Bool.{false≢true, and_parts, and_from, and_left, and_right, or_parts, or_left, or_right}
use Rattle.std.specs.Prelude.{◌&&◌, ◌||◌}
use Rattle.jc_lexer.specs.declared.token.Token.{Token}
use Rattle.jc_grammar.specs.Told.{Told}
use Rattle.jc_reading.specs.Reading.{Read, Found, Stopped, noting, ◌>>=◌, becoming, joined, in_turn, Takes}
use Rattle.jc_reading.proofs.Steps.{Good, Goes, IsFound, Refuses, reach, Moves, Plain, good_becoming, good_bind, within_becoming, within_bind, goes_becoming, goes_bind, goes_after, goes_more, found_becoming, found_bind, reach_noting, reach_becoming, moves_becoming, moves_bind, takes_cut, takes_join, takes_front}
use Rattle.jc_reading.proofs.Forms.{Form, Stands, Begins, Least, Opens, Lawful, begins_pick, begins_fill, begins_behind}
use Rattle.jc_reading.specs.Reach.{Within}

pub alone : (b c : Bool) → b ≡ true → (b && c) ≡ false → c ≡ false
alone true c e f = f
alone false c e f = absurd (false≢true e)

module _ (A B : Type 0) (fa : Form A) (fb : Form B) where
  abbrev pub pair : Form (A × B)
  pair = record {
    tell = λ p r. fa.tell p.0 (fb.tell p.1 r);
    fits = λ p. fa.fits p.0 && fb.fits p.1;
    run = in_turn fa.run fb.run;
    starts = λ ts. fa.starts ts || (fa.empties && fb.starts ts);
    goes_on = λ ts. fb.goes_on ts || (fb.empties && fa.goes_on ts);
    empties = fa.empties && fb.empties;
  }

  -- where the second form begins the first one doesn't go on
  abbrev pub Meet : Type 0
  Meet = (ts : List Token) → fb.starts ts ≡ true → fa.goes_on ts ≡ false

module _ (A B : Type 0) (fa : Form A) (fb : Form B) (la : Lawful A fa) (lb : Lawful B fb) (meet : Meet A B fa fb) where
  abbrev Both : Form (A × B)
  Both = pair A B fa fb

  pub cut : (ts : List Token) (p : A × B) (r : List Token) → Stands Both ts p r → (m : List Token) × Stands fa ts p.0 m × Stands fb m p.1 r
  cut ts p r s =
      let f = and_parts (fa.fits p.0) (fb.fits p.1) s.1 in
      let e = subst (λ (l : List Told). Takes false l ts r) (la.appends p.0 (fb.tell p.1 []) f.0) s.0 in
      let w = takes_cut false (fa.tell p.0 []) (fb.tell p.1 []) ts r e in
      (w.0, (w.1, f.0), (w.2, f.1))

  pub join : (ts m r : List Token) (a : A) (b : B) → Stands fa ts a m → Stands fb m b r → Stands Both ts (a, b) r
  join ts m r a b s t =
      (subst (λ (l : List Told). Takes false l ts r) (sym (la.appends a (fb.tell b []) s.1)) (takes_join false (fa.tell a []) (fb.tell b []) ts m r (lb.plain b t.1) s.0 t.0), and_from (fa.fits a) (fb.fits b) s.1 t.1)

  appends_pair : (p : A × B) (r : List Told) → Both.fits p ≡ true → Both.tell p r ≡ Both.tell p [] ++ r
  appends_pair p r g =
      let f = and_parts (fa.fits p.0) (fb.fits p.1) g in
      ap (fa.tell p.0) (lb.appends p.1 r f.1) ∙ la.appends p.0 (fb.tell p.1 [] ++ r) f.0 ∙ sym (append_assoc (fa.tell p.0 []) (fb.tell p.1 []) r)
      ∙ ap (λ (l : List Told). l ++ r) (sym (la.appends p.0 (fb.tell p.1 []) f.0))

  plain_both : (x y : List Told) → Plain x → Plain y → Plain (x ++ y)
  plain_both [] y p q = q
  plain_both (d ∷ x) y p q = p

  plain_pair : (p : A × B) → Both.fits p ≡ true → Plain (Both.tell p [])
  plain_pair p g =
      let f = and_parts (fa.fits p.0) (fb.fits p.1) g in
      subst (λ (l : List Told). Plain l) (sym (la.appends p.0 (fb.tell p.1 []) f.0)) (plain_both (fa.tell p.0 []) (fb.tell p.1 []) (la.plain p.0 f.0) (lb.plain p.1 f.1))

  within_pair : (ts : List Token) → Within (length ts) (Both.run ts)
  within_pair ts = within_bind (length ts) (fa.run ts) _ (la.within ts) (λ a q. within_becoming (length q) (joined a) (fb.run q) (lb.within q))

  sound_pair : (ts : List Token) → Good (Stands Both ts) (Both.run ts)
  sound_pair ts =
      good_bind (Stands fa ts) (Stands Both ts) (fa.run ts) _ (la.sound ts)
      (λ a q s. good_becoming (Stands fb q) (Stands Both ts) (joined a) (fb.run q) (lb.sound q) (λ b r t. join ts q r a b s t))

  longest_pair : (ts : List Token) (p : A × B) (r : List Token) → Stands Both ts p r → Goes (length r) (Both.run ts)
  longest_pair ts p r s =
      let w = cut ts p r s in
      ⊎_elim
      (λ o. goes_after p.0 w.0 (length r) (fa.run ts) _ (la.exact ts p.0 w.0 w.1 (meet w.0 o.0)) (goes_becoming (length r) (joined p.0) (fb.run w.0) (lb.longest w.0 p.1 r w.2)))
      (λ o. goes_bind (length r) (length r) (fa.run ts) _ (subst (λ (l : List Token). Goes (length l) (fa.run ts)) o.0 (la.longest ts p.0 w.0 w.1))
      (λ a q l. goes_becoming (length r) (joined a) (fb.run q) (goes_more (length q) (length r) (fb.run q) l (lb.total o.1 q))))
      (lb.opens w.0 p.1 r w.2)

  exact_pair : (ts : List Token) (p : A × B) (r : List Token) → Stands Both ts p r → Both.goes_on r ≡ false → IsFound p r (Both.run ts)
  exact_pair ts p r s g =
      let w = cut ts p r s in
      let o = or_parts (fb.goes_on r) (fb.empties && fa.goes_on r) g in
      let stops : fa.goes_on w.0 ≡ false =
      ⊎_elim (λ o. meet w.0 o.0)
      (λ h. subst (λ (l : List Token). fa.goes_on l ≡ false) (sym h.0) (alone (fb.empties) (fa.goes_on r) h.1 o.1))
      (lb.opens w.0 p.1 r w.2) in
      found_bind p.0 w.0 p r (fa.run ts) _ (la.exact ts p.0 w.0 w.1 stops) (found_becoming (joined p.0) p.1 r (fb.run w.0) (lb.exact w.0 p.1 r w.2 o.0))

  opens_pair : (ts : List Token) (p : A × B) (r : List Token) → Stands Both ts p r → Opens Both ts r
  opens_pair ts p r s =
      let w = cut ts p r s in
      let later : length r ≤ length w.0 = ⊎_elim (λ o. omega (arith, o.1)) (λ o. omega (arith, ap length o.0)) (lb.opens w.0 p.1 r w.2) in
      ⊎_elim
      (λ o. inl (or_left (fa.starts ts) (fa.empties && fb.starts ts) o.0, omega (arith, o.1, later)))
      (λ o. ⊎_elim
      (λ i. inl (or_right (fa.starts ts) (fa.empties && fb.starts ts) (and_from fa.empties (fb.starts ts) o.1 (subst (λ (l : List Token). fb.starts l ≡ true) (sym o.0) i.0)), omega (arith, i.1, ap length o.0)))
      (λ i. inr (o.0 ∙ i.0, and_from fa.empties fb.empties o.1 i.1))
      (lb.opens w.0 p.1 r w.2))
      (la.opens ts p.0 w.0 w.1)

  refuses_second : (ts : List Token) (e c : Bool) (l : ℕ) (a : A) (m : Read B) → e ≡ true → Refuses c ts m → Refuses (e && c) ts (noting l (becoming (joined a) m))
  refuses_second ts e c l a (Found b r k) t h = (and_from e c t h.0, h.1)
  refuses_second ts e c l a (Stopped k) t h = and_right e c h

  refuses_both : (ts : List Token) (m : Read A) → Refuses fa.empties ts m → (fa.empties ≡ true → Refuses fb.empties ts (fb.run ts)) → Refuses (fa.empties && fb.empties) ts (m >>= (λ a q. becoming (joined a) (fb.run q)))
  refuses_both ts (Found a q l) h k =
      subst (λ (v : List Token). Refuses (fa.empties && fb.empties) ts (noting l (becoming (joined a) (fb.run v)))) (sym h.1)
      (refuses_second ts fa.empties fb.empties l a (fb.run ts) h.0 (k h.0))
  refuses_both ts (Stopped l) h k = and_left fa.empties fb.empties h

  refuses_pair : (ts : List Token) → Both.starts ts ≡ false → Refuses Both.empties ts (Both.run ts)
  refuses_pair ts h =
      let o = or_parts (fa.starts ts) (fa.empties && fb.starts ts) h in
      refuses_both ts (fa.run ts) (la.refuses ts o.0) (λ e. lb.refuses ts (alone fa.empties (fb.starts ts) e o.1))

  total_pair : Both.empties ≡ true → (ts : List Token) → Goes (length ts) (Both.run ts)
  total_pair e ts =
      let o = and_parts fa.empties fb.empties e in
      goes_bind (length ts) (length ts) (fa.run ts) _ (la.total o.0 ts)
      (λ a q l. goes_becoming (length ts) (joined a) (fb.run q) (goes_more (length q) (length ts) (fb.run q) l (lb.total o.1 q)))

  local_pair : (p x y : List Token) → Moves x y (Both.run (p ++ x)) (Both.run (p ++ y))
  local_pair p x y =
      moves_bind x y p (fa.run (p ++ x)) (fa.run (p ++ y)) _ _ (la.within (p ++ x)) (la.local p x y)
      (λ a q l. moves_becoming x y (joined a) (fb.run (q ++ x)) (fb.run (q ++ y)) (lb.local q x y))

  begins_first : (ts : List Token) (l : ℕ) → Begins A fa ts l → Begins (A × B) Both ts l
  begins_first ts l b =
      begins_fill A (A × B) fa Both (λ a. (a, lb.least.value)) lb.least.tokens ts l
      (λ us a z s. join us (lb.least.tokens ++ z) z a lb.least.value s (lb.least.spelled z)) b

  begins_both : (ts : List Token) (m : Read A) → Begins A fa ts (reach m) → Good (Stands fa ts) m → Begins (A × B) Both ts (reach (m >>= (λ a q. becoming (joined a) (fb.run q))))
  begins_both ts (Found a q l) b g =
      let f = takes_front false (fa.tell a []) ts q g.0 in
      let same : reach (noting l (becoming (joined a) (fb.run q))) ≡ min l (reach (fb.run q)) =
      reach_noting l (becoming (joined a) (fb.run q)) ∙ ap (λ k. min l k) (reach_becoming (joined a) (fb.run q)) in
      subst (λ k. Begins (A × B) Both ts k) (sym same)
      (begins_pick (A × B) Both ts l (reach (fb.run q)) (begins_first ts l b)
      (begins_behind B (A × B) fb Both (λ c. (a, c)) f.0 q ts (reach (fb.run q)) f.1 (λ us c z t. join (f.0 ++ us) us z a c (f.2 us, g.1) t) (lb.begins q)))
  begins_both ts (Stopped l) b g = begins_first ts l b

  least_pair : Least (A × B) Both
  least_pair = record {
    value = (la.least.value, lb.least.value);
    tokens = la.least.tokens ++ lb.least.tokens;
    spelled = λ z. subst (λ (l : List Token). Stands Both l (la.least.value, lb.least.value) z) (sym (append_assoc la.least.tokens lb.least.tokens z))
        (join (la.least.tokens ++ (lb.least.tokens ++ z)) (lb.least.tokens ++ z) z la.least.value lb.least.value (la.least.spelled (lb.least.tokens ++ z)) (lb.least.spelled z));
  }

  pub pair_laws : Lawful (A × B) Both
  pair_laws = record {
    appends = appends_pair;
    plain = plain_pair;
    within = within_pair;
    sound = sound_pair;
    longest = longest_pair;
    exact = exact_pair;
    opens = opens_pair;
    refuses = refuses_pair;
    total = total_pair;
    local = local_pair;
    begins = λ ts. begins_both ts (fa.run ts) (la.begins ts) (la.sound ts);
    least = least_pair;
  }
