-- A value of one form with a certain token behind it, and more; or else another form.
use Rattle.std.proofs.Common.{◌≡◌, ℕ, ◌+◌, ◌<◌, ◌≤◌, min, Bool, true, false, cond, List, [], ◌∷◌, ◌++◌, length, refl, sym, ap, ◌∙◌, subst, ⊎_elim, inl, arith}
use Rattle.std.proofs.lemmas.Bool.{false≢true, cond_both, cond-true, cases_Bool}
use Rattle.jc_lexer.specs.declared.token.Token.{Token}
use Rattle.jc_grammar.specs.Told.{Told}
use Rattle.jc_reading.specs.Kinds.{is_in, front_code, one_of}
use Rattle.jc_reading.specs.Reading.{Read, Found, Stopped, noting, becoming, Either, This, That}
use Rattle.jc_reading.proofs.Steps.{Good, Goes, IsFound, Refuses, reach, Moved, Moves, Plain, good_becoming, good_noting, within_becoming, within_noting, within_more, goes_becoming, goes_noting, found_becoming, found_noting, reach_becoming, reach_noting, moves_becoming, moved_noting, takes_front}
use Rattle.jc_reading.proofs.Forms.{Form, Lawful, Stands, Begins, Opens, begins_as, begins_fill, begins_behind, begins_pick}
use Rattle.jc_reading.proofs.Pairs.{pair, Meet, pair_laws, cut, join}
use Rattle.jc_reading.proofs.Choices.{tell_either, fits_either}
use Rattle.jc_reading.proofs.Signs.{apart_sets, none_common, within_sets, all_in}
use Rattle.jc_reading.specs.Further.{tried, trying}
use Rattle.jc_reading.proofs.Coded.{Coded, formed, in_first, in_second, in_order}
use Rattle.jc_reading.specs.Reach.{Within}

module _ (A B C : Type 0) (codes : List ℕ) (ca : Coded A) (cc : Coded C) (cb : Coded B) where
  abbrev pub attempted : Coded (Either (A × C) B)
  attempted = record {
    tell = tell_either (in_order ca cc).tell cb.tell;
    fits = fits_either (in_order ca cc).fits cb.fits;
    run = trying codes ca.run cc.run cb.run;
    starts = ca.starts ++ cb.starts;
    goes = cc.goes ++ cb.goes;
    empties = false;
  }

  pub record Attempts : Type 0 where
    pub solid : ca.empties ≡ false
    pub solid' : cb.empties ≡ false
    pub solid'' : cc.empties ≡ false
    -- what stands behind begins with one of the codes, where the first form doesn't go on
    pub next : all_in cc.starts codes ≡ true
    pub meets : none_common codes ca.goes ≡ true
    -- where the other form stands, none of the codes is behind the first
    pub other : (ts : List Token) (b : B) (r : List Token) (a : A) (q : List Token) → Stands (formed cb) ts b r → Stands (formed ca) ts a q → one_of codes q ≡ true → ⊥

module _ (A B C : Type 0) (codes : List ℕ) (ca : Coded A) (cc : Coded C) (cb : Coded B) (la : Lawful A (formed ca)) (lc : Lawful C (formed cc)) (lb : Lawful B (formed cb)) (d : Attempts A B C codes ca cc cb) where
  abbrev Whole : Coded (Either (A × C) B)
  Whole = attempted A B C codes ca cc cb

  abbrev Both : Form (A × C)
  Both = pair A C (formed ca) (formed cc)

  meet : Meet A C (formed ca) (formed cc)
  meet ts s = apart_sets codes ca.goes d.meets (front_code ts) (within_sets cc.starts codes d.next (front_code ts) s)

  both_laws : Lawful (A × C) Both
  both_laws = pair_laws A C (formed ca) (formed cc) la lc meet

  abbrev first_part : A → Read C → Read (Either (A × C) B)
  first_part a m = becoming (λ c. This (a, c)) m

  abbrev second_part : Read B → Read (Either (A × C) B)
  second_part m = becoming That m

  coded_next : (q : List Token) (c : C) (r : List Token) → Stands (formed cc) q c r → one_of codes q ≡ true
  coded_next q c r s = ⊎_elim (λ o. within_sets cc.starts codes d.next (front_code q) o.0) (λ o. absurd (false≢true (sym d.solid'' ∙ o.1))) (lc.opens q c r s)

  abbrev Run_on : List Token → Read A → Read (Either (A × C) B)
  Run_on ts m = tried codes ts m cc.run cb.run

  joined_both : (ts m r : List Token) (a : A) (c : C) → Stands (formed ca) ts a m → Stands (formed cc) m c r → Stands (formed Whole) ts (This (a, c)) r
  joined_both ts m r a c s t = join A C (formed ca) (formed cc) la lc meet ts m r a c s t

  parted : (ts : List Token) (p : A × C) (r : List Token) → Stands (formed Whole) ts (This p) r → (m : List Token) × Stands (formed ca) ts p.0 m × Stands (formed cc) m p.1 r
  parted ts p r s = cut A C (formed ca) (formed cc) la lc meet ts p r s

  sound_on : (ts : List Token) (m : Read A) → Good (Stands (formed ca) ts) m → Good (Stands (formed Whole) ts) (Run_on ts m)
  sound_on ts (Found a q l) g =
      cond_both (one_of codes q) (noting l (first_part a (cc.run q))) (noting l (becoming That (cb.run ts))) (Good (Stands (formed Whole) ts))
      (λ e. good_noting (Stands (formed Whole) ts) l (first_part a (cc.run q)) (good_becoming (Stands (formed cc) q) (Stands (formed Whole) ts) (λ c. This (a, c)) (cc.run q) (lc.sound q) (λ c r t. joined_both ts q r a c g t)))
      (λ e. good_noting (Stands (formed Whole) ts) l (becoming That (cb.run ts)) (good_becoming (Stands (formed cb) ts) (Stands (formed Whole) ts) That (cb.run ts) (lb.sound ts) (λ b r t. t)))
  sound_on ts (Stopped l) g = good_noting (Stands (formed Whole) ts) l (becoming That (cb.run ts)) (good_becoming (Stands (formed cb) ts) (Stands (formed Whole) ts) That (cb.run ts) (lb.sound ts) (λ b r t. t))

  within_on : (ts : List Token) (m : Read A) → Within (length ts) m → Within (length ts) (Run_on ts m)
  within_on ts (Found a q l) w =
      cond_both (one_of codes q) (noting l (first_part a (cc.run q))) (noting l (becoming That (cb.run ts))) (Within (length ts))
      (λ e. within_noting l (length ts) (first_part a (cc.run q)) (within_more (length q) (length ts) (first_part a (cc.run q)) w.1 (within_becoming (length q) (λ c. This (a, c)) (cc.run q) (lc.within q))))
      (λ e. within_noting l (length ts) (becoming That (cb.run ts)) (within_becoming (length ts) That (cb.run ts) (lb.within ts)))
  within_on ts (Stopped l) w = within_noting l (length ts) (becoming That (cb.run ts)) (within_becoming (length ts) That (cb.run ts) (lb.within ts))

  -- the first form is found, and what is behind it
  found_this : (P : Read (Either (A × C) B) → Type 0) (ts q : List Token) (a : A) (m : Read A) → IsFound a q m → one_of codes q ≡ true → ((l : ℕ) → P (noting l (first_part a (cc.run q)))) → P (Run_on ts m)
  found_this P ts q a m f e g = subst (λ (v : Read A). P (Run_on ts v)) (sym f.1) (subst P (sym (cond-true (one_of codes q) (noting f.0 (first_part a (cc.run q))) (noting f.0 (becoming That (cb.run ts))) e)) (g f.0))

  -- the other form stands
  found_that : (P : Read (Either (A × C) B) → Type 0) (ts : List Token) (b : B) (r : List Token) (m : Read A) → Good (Stands (formed ca) ts) m → Stands (formed cb) ts b r → ((l : ℕ) → P (noting l (becoming That (cb.run ts)))) → P (Run_on ts m)
  found_that P ts b r (Found a q l) g s h =
      cond_both (one_of codes q) (noting l (first_part a (cc.run q))) (noting l (becoming That (cb.run ts))) P (λ e. absurd (d.other ts b r a q s g e)) (λ e. h l)
  found_that P ts b r (Stopped l) g s h = h l

  exact_first : (ts : List Token) (p : A × C) (r m : List Token) → Stands (formed ca) ts p.0 m → Stands (formed cc) m p.1 r → IsFound p.0 m (ca.run ts)
  exact_first ts p r m s t = la.exact ts p.0 m s (apart_sets codes ca.goes d.meets (front_code m) (coded_next m p.1 r t))

  longest_tries : (ts : List Token) (o : Either (A × C) B) (r : List Token) → Stands (formed Whole) ts o r → Goes (length r) (Whole.run ts)
  longest_tries ts (This p) r s =
      let w = parted ts p r s in
      found_this (Goes (length r)) ts w.0 p.0 (ca.run ts) (exact_first ts p r w.0 w.1 w.2) (coded_next w.0 p.1 r w.2) (λ l. goes_noting l (length r) (first_part p.0 (cc.run w.0)) (goes_becoming (length r) (λ c. This (p.0, c)) (cc.run w.0) (lc.longest w.0 p.1 r w.2)))
  longest_tries ts (That b) r s =
      found_that (Goes (length r)) ts b r (ca.run ts) (la.sound ts) s (λ l. goes_noting l (length r) (becoming That (cb.run ts)) (goes_becoming (length r) That (cb.run ts) (lb.longest ts b r s)))

  stops_first : (r : List Token) → is_in (cc.goes ++ cb.goes) (front_code r) ≡ false → one_of cc.goes r ≡ false
  stops_first r g = ⊎_elim (λ t. absurd (false≢true (sym g ∙ in_first cc.goes cb.goes (front_code r) t))) (λ f. f) (cases_Bool (one_of cc.goes r))

  stops_second : (r : List Token) → is_in (cc.goes ++ cb.goes) (front_code r) ≡ false → one_of cb.goes r ≡ false
  stops_second r g = ⊎_elim (λ t. absurd (false≢true (sym g ∙ in_second cc.goes cb.goes (front_code r) t))) (λ f. f) (cases_Bool (one_of cb.goes r))

  exact_tries : (ts : List Token) (o : Either (A × C) B) (r : List Token) → Stands (formed Whole) ts o r → one_of Whole.goes r ≡ false → IsFound o r (Whole.run ts)
  exact_tries ts (This p) r s g =
      let w = parted ts p r s in
      found_this (IsFound (This p) r) ts w.0 p.0 (ca.run ts) (exact_first ts p r w.0 w.1 w.2) (coded_next w.0 p.1 r w.2) (λ l. found_noting l (This p) r (first_part p.0 (cc.run w.0)) (found_becoming (λ c. This (p.0, c)) p.1 r (cc.run w.0) (lc.exact w.0 p.1 r w.2 (stops_first r g))))
  exact_tries ts (That b) r s g =
      found_that (IsFound (That b) r) ts b r (ca.run ts) (la.sound ts) s (λ l. found_noting l (That b) r (becoming That (cb.run ts)) (found_becoming That b r (cb.run ts) (lb.exact ts b r s (stops_second r g))))

  opens_tries : (ts : List Token) (o : Either (A × C) B) (r : List Token) → Stands (formed Whole) ts o r → Opens (formed Whole) ts r
  opens_tries ts (This p) r s =
      let w = parted ts p r s in
      ⊎_elim (λ o. inl (in_first ca.starts cb.starts (front_code ts) o.0, shorter w.0 o.1 (lc.opens w.0 p.1 r w.2))) (λ o. absurd (false≢true (sym d.solid ∙ o.1))) (la.opens ts p.0 w.0 w.1)
    where
      shorter : (m : List Token) → length m < length ts → Opens (formed cc) m r → length r < length ts
      shorter m lt o = ⊎_elim (λ i. omega (arith, i.1, lt)) (λ i. omega (arith, lt, ap length i.0)) o
  opens_tries ts (That b) r s = ⊎_elim (λ o. inl (in_second ca.starts cb.starts (front_code ts) o.0, o.1)) (λ o. absurd (false≢true (sym d.solid' ∙ o.1))) (lb.opens ts b r s)

  no_first : (ts : List Token) → one_of Whole.starts ts ≡ false → one_of ca.starts ts ≡ false
  no_first ts g = ⊎_elim (λ t. absurd (false≢true (sym g ∙ in_first ca.starts cb.starts (front_code ts) t))) (λ f. f) (cases_Bool (one_of ca.starts ts))

  no_second : (ts : List Token) → one_of Whole.starts ts ≡ false → one_of cb.starts ts ≡ false
  no_second ts g = ⊎_elim (λ t. absurd (false≢true (sym g ∙ in_second ca.starts cb.starts (front_code ts) t))) (λ f. f) (cases_Bool (one_of cb.starts ts))

  refuses_that : (l : ℕ) (ts : List Token) (m : Read B) → Refuses cb.empties ts m → Refuses false ts (noting l (second_part m))
  refuses_that l ts (Found b r k) h = absurd (false≢true (sym d.solid' ∙ h.0))
  refuses_that l ts (Stopped k) h = refl

  refuses_on : (ts : List Token) (m : Read A) → Refuses ca.empties ts m → Refuses cb.empties ts (cb.run ts) → Refuses false ts (Run_on ts m)
  refuses_on ts (Found a q l) h k = absurd (false≢true (sym d.solid ∙ h.0))
  refuses_on ts (Stopped l) h k = refuses_that l ts (cb.run ts) k

  further : {D : Type 0} (k l : ℕ) (m : Read D) → k < reach (noting l m) → (k < l) × (k < reach m)
  further k l m lt = let u : k < min l (reach m) = subst (λ (j : ℕ). k < j) (reach_noting l m) lt in (omega arith, omega arith)

  moved_test : (t : Bool) (x y : List Token) (l k : ℕ) (m n i j : Read (Either (A × C) B)) → l + length y ≡ k + length x → Moves x y m n → Moves x y i j → length x < reach (cond t (noting l m) (noting l i)) → Moved x y (cond t (noting l m) (noting l i)) (cond t (noting k n) (noting k j))
  moved_test true x y l k m n i j e f g lt = moved_noting x y l k m n e (f (further (length x) l m lt).1)
  moved_test false x y l k m n i j e f g lt = moved_noting x y l k i j e (g (further (length x) l i lt).1)

  far_first : (t : Bool) (x : List Token) (l : ℕ) (m i : Read (Either (A × C) B)) → length x < reach (cond t (noting l m) (noting l i)) → length x < l
  far_first true x l m i lt = (further (length x) l m lt).0
  far_first false x l m i lt = (further (length x) l i lt).0

  moved_found : (p x y : List Token) (a b : A) (r s q : List Token) (l k : ℕ) → a ≡ b → r ≡ q ++ x → s ≡ q ++ y → l + length y ≡ k + length x → l ≤ length r → length x < reach (Run_on (p ++ x) (Found a r l)) → Moved x y (Run_on (p ++ x) (Found a r l)) (Run_on (p ++ y) (Found b s k))
  moved_found p x y a b r s [] l k ab rq sq e le lt =
      absurd (none l (far_first (one_of codes r) x l (first_part a (cc.run r)) (becoming That (cb.run (p ++ x))) lt) (subst (λ (v : List Token). l ≤ length v) rq le))
    where
      none : (l : ℕ) → length x < l → l ≤ length x → ⊥
      none l a b = omega (arith, a, b)
  moved_found p x y a b r s (u ∷ q) l k ab rq sq e le lt =
      let lt' = subst (λ (v : List Token). length x < reach (Run_on (p ++ x) (Found a v l))) rq lt in
      let m = moved_test (one_of codes (u ∷ (q ++ x))) x y l k (first_part a (cc.run (u ∷ (q ++ x)))) (first_part a (cc.run (u ∷ (q ++ y)))) (becoming That (cb.run (p ++ x))) (becoming That (cb.run (p ++ y))) e
      (moves_becoming x y (λ c. This (a, c)) (cc.run (u ∷ (q ++ x))) (cc.run (u ∷ (q ++ y))) (lc.local (u ∷ q) x y)) (moves_becoming x y That (cb.run (p ++ x)) (cb.run (p ++ y)) (lb.local p x y)) lt' in
      let m1 = subst (λ (v : List Token). Moved x y (Run_on (p ++ x) (Found a v l)) (Run_on (p ++ y) (Found a (u ∷ (q ++ y)) k))) (sym rq) m in
      let m2 = subst (λ (v : List Token). Moved x y (Run_on (p ++ x) (Found a r l)) (Run_on (p ++ y) (Found a v k))) (sym sq) m1 in
      subst (λ (c : A). Moved x y (Run_on (p ++ x) (Found a r l)) (Run_on (p ++ y) (Found c s k))) ab m2

  moves_on : (p x y : List Token) (m n : Read A) → Within (length (p ++ x)) m → Moves x y m n → Moves x y (Run_on (p ++ x) m) (Run_on (p ++ y) n)
  moves_on p x y (Found a r l) (Found b s k) w h lt =
      let v = h (far_first (one_of codes r) x l (first_part a (cc.run r)) (becoming That (cb.run (p ++ x))) lt) in
      moved_found p x y a b r s v.1 l k v.0 v.2 v.3 v.4 w.0 lt
  moves_on p x y (Found a r l) (Stopped k) w h lt = absurd (h (far_first (one_of codes r) x l (first_part a (cc.run r)) (becoming That (cb.run (p ++ x))) lt))
  moves_on p x y (Stopped l) (Found b s k) w h lt = absurd (h (further (length x) l (becoming That (cb.run (p ++ x))) lt).0)
  moves_on p x y (Stopped l) (Stopped k) w h lt =
      let u = further (length x) l (becoming That (cb.run (p ++ x))) lt in
      moved_noting x y l k (becoming That (cb.run (p ++ x))) (becoming That (cb.run (p ++ y))) (h u.0) (moves_becoming x y That (cb.run (p ++ x)) (cb.run (p ++ y)) (lb.local p x y) u.1)

  begins_first : (ts : List Token) (l : ℕ) → Begins A (formed ca) ts l → Begins (Either (A × C) B) (formed Whole) ts l
  begins_first ts l b = begins_fill A (Either (A × C) B) (formed ca) (formed Whole) (λ a. This (a, lc.least.value)) lc.least.tokens ts l (λ us a z s. joined_both us (lc.least.tokens ++ z) z a lc.least.value s (lc.least.spelled z)) b

  begins_that : (ts : List Token) (l : ℕ) → Begins A (formed ca) ts l → Begins (Either (A × C) B) (formed Whole) ts (reach (noting l (second_part (cb.run ts))))
  begins_that ts l b =
      subst (λ k. Begins (Either (A × C) B) (formed Whole) ts k) (sym (reach_noting l (becoming That (cb.run ts)) ∙ ap (λ k. min l k) (reach_becoming That (cb.run ts))))
      (begins_pick (Either (A × C) B) (formed Whole) ts l (reach (cb.run ts)) (begins_first ts l b) (begins_as B (Either (A × C) B) (formed cb) (formed Whole) That ts (reach (cb.run ts)) (λ us c z s. s) (lb.begins ts)))

  begins_this : (ts q : List Token) (a : A) (l : ℕ) → Begins A (formed ca) ts l → Stands (formed ca) ts a q → Begins (Either (A × C) B) (formed Whole) ts (reach (noting l (first_part a (cc.run q))))
  begins_this ts q a l b g =
      let f = takes_front false (ca.tell a []) ts q g.0 in
      subst (λ k. Begins (Either (A × C) B) (formed Whole) ts k) (sym (reach_noting l (first_part a (cc.run q)) ∙ ap (λ k. min l k) (reach_becoming (λ c. This (a, c)) (cc.run q))))
      (begins_pick (Either (A × C) B) (formed Whole) ts l (reach (cc.run q)) (begins_first ts l b)
      (begins_behind C (Either (A × C) B) (formed cc) (formed Whole) (λ c. This (a, c)) f.0 q ts (reach (cc.run q)) f.1 (λ us c z t. joined_both (f.0 ++ us) us z a c (f.2 us, g.1) t) (lc.begins q)))

  begins_on : (ts : List Token) (m : Read A) → Begins A (formed ca) ts (reach m) → Good (Stands (formed ca) ts) m → Begins (Either (A × C) B) (formed Whole) ts (reach (Run_on ts m))
  begins_on ts (Found a q l) b g =
      cond_both (one_of codes q) (noting l (first_part a (cc.run q))) (noting l (becoming That (cb.run ts))) (λ m. Begins (Either (A × C) B) (formed Whole) ts (reach m)) (λ e. begins_this ts q a l b g) (λ e. begins_that ts l b)
  begins_on ts (Stopped l) b g = begins_that ts l b

  pub attempted_laws : Lawful (Either (A × C) B) (formed Whole)
  attempted_laws = record {
    appends = appends;
    plain = plain;
    within = λ ts. within_on ts (ca.run ts) (la.within ts);
    sound = λ ts. sound_on ts (ca.run ts) (la.sound ts);
    longest = longest_tries;
    exact = exact_tries;
    opens = opens_tries;
    refuses = λ ts g. refuses_on ts (ca.run ts) (la.refuses ts (no_first ts g)) (lb.refuses ts (no_second ts g));
    total = λ e ts. absurd (false≢true e);
    local = λ p x y. moves_on p x y (ca.run (p ++ x)) (ca.run (p ++ y)) (la.within (p ++ x)) (la.local p x y);
    begins = λ ts. begins_on ts (ca.run ts) (la.begins ts) (la.sound ts);
    least = record { value = That lb.least.value; tokens = lb.least.tokens; spelled = lb.least.spelled };
  }
    where
      appends : (o : Either (A × C) B) (r : List Told) → Whole.fits o ≡ true → Whole.tell o r ≡ Whole.tell o [] ++ r
      appends (This p) r g = both_laws.appends p r g
      appends (That b) r g = lb.appends b r g

      plain : (o : Either (A × C) B) → Whole.fits o ≡ true → Plain (Whole.tell o [])
      plain (This p) g = both_laws.plain p g
      plain (That b) g = lb.plain b g
