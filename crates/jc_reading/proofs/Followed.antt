-- A value, and more behind it unless it is one that takes no more.
use Rattle.std.proofs.Common.{◌≡◌, ℕ, ◌≤◌, min, Bool, true, false, cond, List, [], ◌∷◌, ◌++◌, length, append_assoc, refl, sym, ap, ◌∙◌, subst, ⊎_elim, inl, arith}
use Rattle.std.proofs.lemmas.Bool.{false≢true, cond_both, cases_Bool, and_parts, and_from, or_left, or_right, or_cases}
use Rattle.std.specs.Prelude.{◌&&◌, ◌||◌, not}
use Rattle.jc_lexer.specs.declared.token.Token.{Token}
use Rattle.jc_grammar.specs.Told.{Told}
use Rattle.jc_reading.specs.Kinds.{is_in, front_code, one_of}
use Rattle.jc_reading.specs.Reading.{Read, Found, Stopped, found, becoming, joined, ◌>>=◌, Takes}
use Rattle.jc_reading.proofs.Steps.{Good, Goes, IsFound, Refuses, reach, Moves, Plain, good_becoming, good_bind, within_becoming, within_bind, goes_becoming, goes_bind, goes_after, goes_more, found_becoming, found_bind, reach_becoming, reach_noting, moves_becoming, moves_bind, moves_found, takes_cut, takes_join, takes_front}
use Rattle.jc_reading.proofs.Forms.{Lawful, Stands, Begins, Opens, begins_as, begins_full, begins_behind, begins_pick}
use Rattle.jc_reading.specs.Further.{unless, followed}
use Rattle.jc_reading.proofs.Coded.{Coded, formed, in_first, in_second}
use Rattle.jc_reading.specs.Reach.{Within}

module _ (A T : Type 0) (closes : A → Bool) (none : T) (nothing : T → Bool) (ca : Coded A) (ct : Coded T) where
  abbrev pub following : Coded (A × T)
  following = record {
    tell = λ p r. ca.tell p.0 (ct.tell p.1 r);
    fits = λ p. ca.fits p.0 && (ct.fits p.1 && (nothing p.1 || not (closes p.0)));
    run = followed closes none ca.run ct.run;
    starts = ca.starts;
    goes = ct.goes ++ ca.goes;
    empties = false;
  }

  pub record Follow : Type 0 where
    pub solid : ca.empties ≡ false
    pub free : ct.empties ≡ true
    pub bare : (r : List Told) → ct.tell none r ≡ r
    pub none_fits : ct.fits none ≡ true
    pub none_is : nothing none ≡ true
    pub only : (t : T) → nothing t ≡ true → none ≡ t
    pub some : (ts : List Token) (t : T) (r : List Token) → Stands (formed ct) ts t r → nothing t ≡ false → one_of ct.starts ts ≡ true
    -- what takes more is found exactly where more stands
    pub whole : (ts : List Token) (a : A) (r : List Token) → Stands (formed ca) ts a r → closes a ≡ false → one_of ct.starts r ≡ true → IsFound a r (ca.run ts)

module _ (A T : Type 0) (closes : A → Bool) (none : T) (nothing : T → Bool) (ca : Coded A) (ct : Coded T) (la : Lawful A (formed ca)) (lt : Lawful T (formed ct)) (d : Follow A T closes none nothing ca ct) where
  abbrev Both : Coded (A × T)
  Both = following A T closes none nothing ca ct

  abbrev After : A → List Token → Read (A × T)
  After a q = unless closes none ct.run a q

  not_false : (b : Bool) → b ≡ false → not b ≡ true
  not_false true e = absurd (false≢true (sym e))
  not_false false e = refl

  not_true : (b : Bool) → not b ≡ true → b ≡ false
  not_true true e = absurd (false≢true e)
  not_true false e = refl

  record Cut (ts : List Token) (p : A × T) (r : List Token) : Type 0 where
    m : List Token
    first : Stands (formed ca) ts p.0 m
    second : Stands (formed ct) m p.1 r
    which : (nothing p.1 || not (closes p.0)) ≡ true

  cut : (ts : List Token) (p : A × T) (r : List Token) → Stands (formed Both) ts p r → Cut ts p r
  cut ts p r s =
      let f = and_parts (ca.fits p.0) (ct.fits p.1 && (nothing p.1 || not (closes p.0))) s.1 in
      let g = and_parts (ct.fits p.1) (nothing p.1 || not (closes p.0)) f.1 in
      let e = subst (λ (l : List Told). Takes false l ts r) (la.appends p.0 (ct.tell p.1 []) f.0) s.0 in
      let w = takes_cut false (ca.tell p.0 []) (ct.tell p.1 []) ts r e in
      record { m = w.0; first = (w.1, f.0); second = (w.2, g.0); which = g.1 }

  join : (ts m r : List Token) (a : A) (t : T) → Stands (formed ca) ts a m → Stands (formed ct) m t r → (nothing t || not (closes a)) ≡ true → Stands (formed Both) ts (a, t) r
  join ts m r a t s u w = (
    subst (λ (l : List Told). Takes false l ts r) (sym (la.appends a (ct.tell t []) s.1)) (takes_join false (ca.tell a []) (ct.tell t []) ts m r (lt.plain t u.1) s.0 u.0),
    and_from (ca.fits a) (ct.fits t && (nothing t || not (closes a))) s.1 (and_from (ct.fits t) (nothing t || not (closes a)) u.1 w),
  )

  stands_none : (ts : List Token) → Stands (formed ct) ts none ts
  stands_none ts = (subst (λ (l : List Told). Takes false l ts ts) (sym (d.bare [])) refl, d.none_fits)

  is_none : (ts : List Token) (t : T) (r : List Token) → nothing t ≡ true → Stands (formed ct) ts t r → ts ≡ r
  is_none ts t r n s = subst (λ (l : List Told). Takes false l ts r) (ap (λ (u : T). ct.tell u []) (sym (d.only t n)) ∙ d.bare []) s.0

  join_none : (ts m : List Token) (a : A) → Stands (formed ca) ts a m → Stands (formed Both) ts (a, none) m
  join_none ts m a s = join ts m m a none s (stands_none m) (or_left (nothing none) (not (closes a)) d.none_is)

  join_some : (ts m r : List Token) (a : A) (t : T) → closes a ≡ false → Stands (formed ca) ts a m → Stands (formed ct) m t r → Stands (formed Both) ts (a, t) r
  join_some ts m r a t e s u = join ts m r a t s u (or_right (nothing t) (not (closes a)) (not_false (closes a) e))

  by_closes : (P : Read (A × T) → Type 0) (a : A) (q : List Token) → (closes a ≡ true → P (found (a, none) q)) → (closes a ≡ false → P (becoming (joined a) (ct.run q))) → P (After a q)
  by_closes P a q f g = cond_both (closes a) (found (a, none) q) (becoming (joined a) (ct.run q)) P f g

  appends_both : (p : A × T) (r : List Told) → Both.fits p ≡ true → Both.tell p r ≡ Both.tell p [] ++ r
  appends_both p r g =
      let f = and_parts (ca.fits p.0) (ct.fits p.1 && (nothing p.1 || not (closes p.0))) g in
      let k = (and_parts (ct.fits p.1) (nothing p.1 || not (closes p.0)) f.1).0 in
      ap (ca.tell p.0) (lt.appends p.1 r k) ∙ la.appends p.0 (ct.tell p.1 [] ++ r) f.0 ∙ sym (append_assoc (ca.tell p.0 []) (ct.tell p.1 []) r)
      ∙ ap (λ (l : List Told). l ++ r) (sym (la.appends p.0 (ct.tell p.1 []) f.0))

  plain_two : (x y : List Told) → Plain x → Plain y → Plain (x ++ y)
  plain_two [] y p q = q
  plain_two (k ∷ x) y p q = p

  plain_both : (p : A × T) → Both.fits p ≡ true → Plain (Both.tell p [])
  plain_both p g =
      let f = and_parts (ca.fits p.0) (ct.fits p.1 && (nothing p.1 || not (closes p.0))) g in
      let k = (and_parts (ct.fits p.1) (nothing p.1 || not (closes p.0)) f.1).0 in
      subst (λ (l : List Told). Plain l) (sym (la.appends p.0 (ct.tell p.1 []) f.0)) (plain_two (ca.tell p.0 []) (ct.tell p.1 []) (la.plain p.0 f.0) (lt.plain p.1 k))

  within_both : (ts : List Token) → Within (length ts) (Both.run ts)
  within_both ts = within_bind (length ts) (ca.run ts) After (la.within ts) (λ a q. by_closes (Within (length q)) a q (λ e. (omega arith, omega arith)) (λ e. within_becoming (length q) (joined a) (ct.run q) (lt.within q)))

  sound_both : (ts : List Token) → Good (Stands (formed Both) ts) (Both.run ts)
  sound_both ts =
      good_bind (Stands (formed ca) ts) (Stands (formed Both) ts) (ca.run ts) After (la.sound ts)
      (λ a q s. by_closes (Good (Stands (formed Both) ts)) a q (λ e. join_none ts q a s)
      (λ e. good_becoming (Stands (formed ct) q) (Stands (formed Both) ts) (joined a) (ct.run q) (lt.sound q) (λ t r u. join_some ts q r a t e s u)))

  goes_any : (a : A) (q : List Token) → Goes (length q) (After a q)
  goes_any a q = by_closes (Goes (length q)) a q (λ e. omega arith) (λ e. goes_becoming (length q) (joined a) (ct.run q) (lt.total d.free q))

  found_whole : (ts : List Token) (p : A × T) (r : List Token) → (c : Cut ts p r) → nothing p.1 ≡ false → (closes p.0 ≡ false) × IsFound p.0 c.m (ca.run ts)
  found_whole ts p r c n =
      let e : closes p.0 ≡ false = ⊎_elim (λ t. absurd (false≢true (sym n ∙ t))) (not_true (closes p.0)) (or_cases (nothing p.1) (not (closes p.0)) c.which) in
      (e, d.whole ts p.0 c.m c.first e (d.some c.m p.1 r c.second n))

  longest_both : (ts : List Token) (p : A × T) (r : List Token) → Stands (formed Both) ts p r → Goes (length r) (Both.run ts)
  longest_both ts p r s =
      let c = cut ts p r s in
      ⊎_elim
      (λ n. goes_bind (length r) (length r) (ca.run ts) After (subst (λ (l : List Token). Goes (length l) (ca.run ts)) (is_none c.m p.1 r n c.second) (la.longest ts p.0 c.m c.first)) (λ a q l. goes_more (length q) (length r) (After a q) l (goes_any a q)))
      (λ n. let w = found_whole ts p r c n in
      goes_after p.0 c.m (length r) (ca.run ts) After w.1 (subst (λ b. Goes (length r) (cond b (found (p.0, none) c.m) (becoming (joined p.0) (ct.run c.m)))) (sym w.0) (goes_becoming (length r) (joined p.0) (ct.run c.m) (lt.longest c.m p.1 r c.second))))
      (cases_Bool (nothing p.1))

  stops_first : (r : List Token) → is_in (ct.goes ++ ca.goes) (front_code r) ≡ false → one_of ct.goes r ≡ false
  stops_first r g = ⊎_elim (λ t. absurd (false≢true (sym g ∙ in_first ct.goes ca.goes (front_code r) t))) (λ f. f) (cases_Bool (one_of ct.goes r))

  stops_second : (r : List Token) → is_in (ct.goes ++ ca.goes) (front_code r) ≡ false → one_of ca.goes r ≡ false
  stops_second r g = ⊎_elim (λ t. absurd (false≢true (sym g ∙ in_second ct.goes ca.goes (front_code r) t))) (λ f. f) (cases_Bool (one_of ca.goes r))

  found_none : (a : A) (r : List Token) → one_of ct.goes r ≡ false → IsFound (a, none) r (After a r)
  found_none a r g = by_closes (IsFound (a, none) r) a r (λ e. (length r, refl)) (λ e. found_becoming (joined a) none r (ct.run r) (lt.exact r none r (stands_none r) g))

  found_more : (ts : List Token) (p : A × T) (r : List Token) → (c : Cut ts p r) → nothing p.1 ≡ false → IsFound p.1 r (ct.run c.m) → IsFound p r (Both.run ts)
  found_more ts p r c n f =
      let w = found_whole ts p r c n in
      found_bind p.0 c.m p r (ca.run ts) After w.1 (subst (λ b. IsFound p r (cond b (found (p.0, none) c.m) (becoming (joined p.0) (ct.run c.m)))) (sym w.0) (found_becoming (joined p.0) p.1 r (ct.run c.m) f))

  exact_both : (ts : List Token) (p : A × T) (r : List Token) → Stands (formed Both) ts p r → one_of Both.goes r ≡ false → IsFound p r (Both.run ts)
  exact_both ts p r s g =
      let c = cut ts p r s in
      ⊎_elim
      (λ n. let e = is_none c.m p.1 r n c.second in
      let first = la.exact ts p.0 r (subst (λ (l : List Token). Stands (formed ca) ts p.0 l) e c.first) (stops_second r g) in
      subst (λ (t : T). IsFound (p.0, t) r (Both.run ts)) (d.only p.1 n) (found_bind p.0 r (p.0, none) r (ca.run ts) After first (found_none p.0 r (stops_first r g))))
      (λ n. found_more ts p r c n (lt.exact c.m p.1 r c.second (stops_first r g)))
      (cases_Bool (nothing p.1))

  later : (m : List Token) (t : T) (r : List Token) → Stands (formed ct) m t r → length r ≤ length m
  later m t r s = ⊎_elim (λ o. omega (arith, o.1)) (λ o. omega (arith, ap length o.0)) (lt.opens m t r s)

  opens_both : (ts : List Token) (p : A × T) (r : List Token) → Stands (formed Both) ts p r → Opens (formed Both) ts r
  opens_both ts p r s =
      let c = cut ts p r s in
      let le = later c.m p.1 r c.second in
      ⊎_elim (λ o. inl (o.0, omega (arith, o.1, le))) (λ o. absurd (false≢true (sym d.solid ∙ o.1))) (la.opens ts p.0 c.m c.first)

  refuses_on : (ts : List Token) (m : Read A) → Refuses ca.empties ts m → Refuses false ts (m >>= After)
  refuses_on ts (Found a q l) h = absurd (false≢true (sym d.solid ∙ h.0))
  refuses_on ts (Stopped l) h = refl

  moves_after : (b : Bool) (a : A) (q x y : List Token) → Moves x y (cond b (found (a, none) (q ++ x)) (becoming (joined a) (ct.run (q ++ x)))) (cond b (found (a, none) (q ++ y)) (becoming (joined a) (ct.run (q ++ y))))
  moves_after true a q x y = moves_found x y (a, none) q
  moves_after false a q x y = moves_becoming x y (joined a) (ct.run (q ++ x)) (ct.run (q ++ y)) (lt.local q x y)

  begins_first : (ts : List Token) (l : ℕ) → Begins A (formed ca) ts l → Begins (A × T) (formed Both) ts l
  begins_first ts l b = begins_as A (A × T) (formed ca) (formed Both) (λ a. (a, none)) ts l (λ us a z s. join_none us z a s) b

  begins_after : (ts q : List Token) (a : A) (l : ℕ) → Begins A (formed ca) ts l → Stands (formed ca) ts a q → Begins (A × T) (formed Both) ts (min l (reach (After a q)))
  begins_after ts q a l b g =
      let f = takes_front false (ca.tell a []) ts q g.0 in
      by_closes (λ m. Begins (A × T) (formed Both) ts (min l (reach m))) a q
      (λ e. begins_pick (A × T) (formed Both) ts l (length q) (begins_first ts l b) (begins_full (A × T) (formed Both) ts (a, none) q (join_none ts q a g)))
      (λ e. subst (λ k. Begins (A × T) (formed Both) ts (min l k)) (sym (reach_becoming (joined a) (ct.run q)))
      (begins_pick (A × T) (formed Both) ts l (reach (ct.run q)) (begins_first ts l b)
      (begins_behind T (A × T) (formed ct) (formed Both) (λ t. (a, t)) f.0 q ts (reach (ct.run q)) f.1 (λ us t z u. join_some (f.0 ++ us) us z a t e (f.2 us, g.1) u) (lt.begins q))))

  begins_on : (ts : List Token) (m : Read A) → Begins A (formed ca) ts (reach m) → Good (Stands (formed ca) ts) m → Begins (A × T) (formed Both) ts (reach (m >>= After))
  begins_on ts (Found a q l) b g = subst (λ k. Begins (A × T) (formed Both) ts k) (sym (reach_noting l (After a q))) (begins_after ts q a l b g)
  begins_on ts (Stopped l) b g = begins_first ts l b

  pub following_laws : Lawful (A × T) (formed Both)
  following_laws = record {
    appends = appends_both;
    plain = plain_both;
    within = within_both;
    sound = sound_both;
    longest = longest_both;
    exact = exact_both;
    opens = opens_both;
    refuses = λ ts g. refuses_on ts (ca.run ts) (la.refuses ts g);
    total = λ e ts. absurd (false≢true e);
    local = λ p x y. moves_bind x y p (ca.run (p ++ x)) (ca.run (p ++ y)) After After (la.within (p ++ x)) (la.local p x y) (λ a q l. moves_after (closes a) a q x y);
    begins = λ ts. begins_on ts (ca.run ts) (la.begins ts) (la.sound ts);
    least = record { value = (la.least.value, none); tokens = la.least.tokens; spelled = λ z. join_none (la.least.tokens ++ z) z la.least.value (la.least.spelled z) };
  }

  -- where more is found whatever follows, so is the whole
  pub following_whole : (ts : List Token) (p : A × T) (r : List Token) → Stands (formed Both) ts p r → nothing p.1 ≡ false → ((m : List Token) → Stands (formed ct) m p.1 r → IsFound p.1 r (ct.run m)) → IsFound p r (Both.run ts)
  following_whole ts p r s n f = let c = cut ts p r s in found_more ts p r c n (f c.m c.second)
