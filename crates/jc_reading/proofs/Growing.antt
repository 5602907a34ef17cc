-- A first value, and any number of parts behind it that make it grow.
use Rattle.std.proofs.Common.{◌≡◌, ℕ, ◌<◌, min, Bool, true, false, List, [], ◌∷◌, ◌++◌, length, append_assoc, refl, sym, ap, ◌∙◌, subst, ⊎_elim, inl, arith}
use Rattle.std.proofs.lemmas.Bool.{false≢true, and_parts, and_from}
use Rattle.std.specs.Prelude.{◌&&◌}
use Rattle.jc_lexer.specs.declared.token.Token.{Token}
use Rattle.jc_grammar.specs.Told.{Told}
use Rattle.jc_reading.specs.Reading.{Read, Found, Stopped, Run, noting, becoming, joined, ◌>>=◌, Takes}
use Rattle.jc_reading.proofs.Steps.{Good, Goes, IsFound, Refuses, reach, Plain, good_becoming, good_bind, within_becoming, within_bind, goes_becoming, goes_bind, goes_after, goes_more, found_becoming, found_bind, reach_noting, reach_becoming, moves_becoming, moves_bind, takes_cut, takes_join, takes_front, takes_length}
use Rattle.jc_reading.proofs.Forms.{Form, Stands, Begins, Opens, Lawful, begins_pick, begins_as, begins_behind}
use Rattle.jc_reading.proofs.Lists.{tell_all}
use Rattle.jc_reading.specs.Growing.{growing}
use Rattle.jc_reading.proofs.Stepwise.{part, parts, fits_from, Stepping, parts_laws, cut_part}
use Rattle.jc_reading.specs.Reach.{Within}

module _ (V P : Type 0) (make : V → P → V) (tell : P → List Told → List Told) (fits : V → P → Bool) (run : V → Run P) (starts : V → List Token → Bool) (ends : List Token → Bool) (fv : Form V) where
  abbrev pub grows : Form (V × List P)
  grows = record {
    tell = λ g r. fv.tell g.0 (tell_all tell g.1 r);
    fits = λ g. fv.fits g.0 && fits_from V P make tell fits run starts ends g.0 g.1;
    run = growing fv.run make run;
    starts = fv.starts;
    goes_on = ends;
    empties = false;
  }

  pub record Growing : Type 0 where
    pub stepping : Stepping V P make tell fits run starts ends
    pub lawful : Lawful V fv
    pub solid : fv.empties ≡ false
    pub goes : (ts : List Token) → ends ts ≡ false → fv.goes_on ts ≡ false
    -- a first value with a part behind it is found exactly
    pub next : (ts : List Token) (v : V) (m : List Token) (p : P) (r : List Token) → Stands fv ts v m → Stands (part V P make tell fits run starts ends v) m p r → IsFound v m (fv.run ts)

module _ (V P : Type 0) (make : V → P → V) (tell : P → List Told → List Told) (fits : V → P → Bool) (run : V → Run P) (starts : V → List Token → Bool) (ends : List Token → Bool) (fv : Form V) (h : Growing V P make tell fits run starts ends fv) where
  abbrev Parts : V → Form (List P)
  Parts v = parts V P make tell fits run starts ends v

  abbrev lp : (v : V) → Lawful (List P) (Parts v)
  lp v = parts_laws V P make tell fits run starts ends h.stepping v

  abbrev Whole : Form (V × List P)
  Whole = grows V P make tell fits run starts ends fv

  abbrev After : V → List Token → Read (V × List P)
  After v q = becoming (joined v) ((Parts v).run q)

  pub cut_first : (ts : List Token) (g : V × List P) (r : List Token) → Stands Whole ts g r → (m : List Token) × Stands fv ts g.0 m × Stands (Parts g.0) m g.1 r
  cut_first ts g r s =
      let f = and_parts (fv.fits g.0) ((Parts g.0).fits g.1) s.1 in
      let e = subst (λ (l : List Told). Takes false l ts r) (h.lawful.appends g.0 ((Parts g.0).tell g.1 []) f.0) s.0 in
      let w = takes_cut false (fv.tell g.0 []) ((Parts g.0).tell g.1 []) ts r e in
      (w.0, (w.1, f.0), (w.2, f.1))

  pub join_first : (ts m r : List Token) (v : V) (list : List P) → Stands fv ts v m → Stands (Parts v) m list r → Stands Whole ts (v, list) r
  join_first ts m r v list s t =
      (subst (λ (l : List Told). Takes false l ts r) (sym (h.lawful.appends v ((Parts v).tell list []) s.1)) (takes_join false (fv.tell v []) ((Parts v).tell list []) ts m r ((lp v).plain list t.1) s.0 t.0), and_from (fv.fits v) ((Parts v).fits list) s.1 t.1)

  appends_whole : (g : V × List P) (r : List Told) → Whole.fits g ≡ true → Whole.tell g r ≡ Whole.tell g [] ++ r
  appends_whole g r q =
      let f = and_parts (fv.fits g.0) ((Parts g.0).fits g.1) q in
      ap (fv.tell g.0) ((lp g.0).appends g.1 r f.1) ∙ h.lawful.appends g.0 ((Parts g.0).tell g.1 [] ++ r) f.0 ∙ sym (append_assoc (fv.tell g.0 []) ((Parts g.0).tell g.1 []) r)
      ∙ ap (λ (l : List Told). l ++ r) (sym (h.lawful.appends g.0 ((Parts g.0).tell g.1 []) f.0))

  plain_both : (x y : List Told) → Plain x → Plain y → Plain (x ++ y)
  plain_both [] y p q = q
  plain_both (d ∷ x) y p q = p

  plain_whole : (g : V × List P) → Whole.fits g ≡ true → Plain (Whole.tell g [])
  plain_whole g q =
      let f = and_parts (fv.fits g.0) ((Parts g.0).fits g.1) q in
      subst (λ (l : List Told). Plain l) (sym (h.lawful.appends g.0 ((Parts g.0).tell g.1 []) f.0)) (plain_both (fv.tell g.0 []) ((Parts g.0).tell g.1 []) (h.lawful.plain g.0 f.0) ((lp g.0).plain g.1 f.1))

  within_whole : (ts : List Token) → Within (length ts) (Whole.run ts)
  within_whole ts = within_bind (length ts) (fv.run ts) After (h.lawful.within ts) (λ v q. within_becoming (length q) (joined v) ((Parts v).run q) ((lp v).within q))

  sound_whole : (ts : List Token) → Good (Stands Whole ts) (Whole.run ts)
  sound_whole ts =
      good_bind (Stands fv ts) (Stands Whole ts) (fv.run ts) After (h.lawful.sound ts)
      (λ v q s. good_becoming (Stands (Parts v) q) (Stands Whole ts) (joined v) ((Parts v).run q) ((lp v).sound q) (λ list r t. join_first ts q r v list s t))

  goes_any : (v : V) (q : List Token) → Goes (length q) (After v q)
  goes_any v q = goes_becoming (length q) (joined v) ((Parts v).run q) ((lp v).total refl q)

  -- the first value is found exactly where a part stands behind it
  found_first : (ts : List Token) (v : V) (m : List Token) (p : P) (list : List P) (r : List Token) → Stands fv ts v m → Stands (Parts v) m (p ∷ list) r → IsFound v m (fv.run ts)
  found_first ts v m p list r s t = let c = cut_part V P make tell fits run starts ends h.stepping v m p list r t in h.next ts v m p c.0 s c.1

  longest_on : (ts : List Token) (v : V) (list : List P) (m r : List Token) → Stands fv ts v m → Stands (Parts v) m list r → Goes (length r) (Whole.run ts)
  longest_on ts v [] m r s t =
      goes_bind (length r) (length r) (fv.run ts) After (subst (λ (l : List Token). Goes (length l) (fv.run ts)) t.0 (h.lawful.longest ts v m s)) (λ w q l. goes_more (length q) (length r) (After w q) l (goes_any w q))
  longest_on ts v (p ∷ list) m r s t =
      goes_after v m (length r) (fv.run ts) After (found_first ts v m p list r s t) (goes_becoming (length r) (joined v) ((Parts v).run m) ((lp v).longest m (p ∷ list) r t))

  longest_whole : (ts : List Token) (g : V × List P) (r : List Token) → Stands Whole ts g r → Goes (length r) (Whole.run ts)
  longest_whole ts g r s = let c = cut_first ts g r s in longest_on ts g.0 g.1 c.0 r c.1 c.2

  exact_on : (ts : List Token) (v : V) (list : List P) (m r : List Token) → Stands fv ts v m → Stands (Parts v) m list r → ends r ≡ false → IsFound (v, list) r (Whole.run ts)
  exact_on ts v [] m r s t e =
      found_bind v m (v, []) r (fv.run ts) After (h.lawful.exact ts v m s (h.goes m (subst (λ (l : List Token). ends l ≡ false) (sym t.0) e))) (found_becoming (joined v) [] r ((Parts v).run m) ((lp v).exact m [] r t e))
  exact_on ts v (p ∷ list) m r s t e =
      found_bind v m (v, p ∷ list) r (fv.run ts) After (found_first ts v m p list r s t) (found_becoming (joined v) (p ∷ list) r ((Parts v).run m) ((lp v).exact m (p ∷ list) r t e))

  exact_whole : (ts : List Token) (g : V × List P) (r : List Token) → Stands Whole ts g r → ends r ≡ false → IsFound g r (Whole.run ts)
  exact_whole ts g r s e = let c = cut_first ts g r s in exact_on ts g.0 g.1 c.0 r c.1 c.2 e

  pub first_opens : (ts : List Token) (v : V) (m : List Token) → Stands fv ts v m → (fv.starts ts ≡ true) × (length m < length ts)
  first_opens ts v m s = ⊎_elim (λ o. o) (λ o. absurd (false≢true (sym h.solid ∙ o.1))) (h.lawful.opens ts v m s)

  opens_whole : (ts : List Token) (g : V × List P) (r : List Token) → Stands Whole ts g r → Opens Whole ts r
  opens_whole ts g r s =
      let c = cut_first ts g r s in
      let o = first_opens ts g.0 c.0 c.1 in
      inl (o.0, omega (arith, o.1, takes_length false ((Parts g.0).tell g.1 []) c.0 r c.2.0))

  refuses_on : (ts : List Token) (m : Read V) → Refuses fv.empties ts m → Refuses false ts (m >>= After)
  refuses_on ts (Found v q l) k = absurd (false≢true (sym h.solid ∙ k.0))
  refuses_on ts (Stopped l) k = refl

  begins_first : (ts : List Token) (l : ℕ) → Begins V fv ts l → Begins (V × List P) Whole ts l
  begins_first ts l b = begins_as V (V × List P) fv Whole (λ v. (v, [])) ts l (λ us v z s. join_first us z z v [] s (refl, refl)) b

  begins_on : (ts : List Token) (m : Read V) → Begins V fv ts (reach m) → Good (Stands fv ts) m → Begins (V × List P) Whole ts (reach (m >>= After))
  begins_on ts (Found v q l) b g =
      let f = takes_front false (fv.tell v []) ts q g.0 in
      let same : reach (noting l (After v q)) ≡ min l (reach ((Parts v).run q)) =
      reach_noting l (After v q) ∙ ap (λ k. min l k) (reach_becoming (joined v) ((Parts v).run q)) in
      subst (λ k. Begins (V × List P) Whole ts k) (sym same)
      (begins_pick (V × List P) Whole ts l (reach ((Parts v).run q)) (begins_first ts l b)
      (begins_behind (List P) (V × List P) (Parts v) Whole (λ list. (v, list)) f.0 q ts (reach ((Parts v).run q)) f.1 (λ us list z t. join_first (f.0 ++ us) us z v list (f.2 us, g.1) t) ((lp v).begins q)))
  begins_on ts (Stopped l) b g = begins_first ts l b

  pub growing_laws : Lawful (V × List P) Whole
  growing_laws = record {
    appends = appends_whole;
    plain = plain_whole;
    within = within_whole;
    sound = sound_whole;
    longest = longest_whole;
    exact = exact_whole;
    opens = opens_whole;
    refuses = λ ts g. refuses_on ts (fv.run ts) (h.lawful.refuses ts g);
    total = λ e ts. absurd (false≢true e);
    local = λ p x y. moves_bind x y p (fv.run (p ++ x)) (fv.run (p ++ y)) After After (h.lawful.within (p ++ x)) (h.lawful.local p x y) (λ v q l. moves_becoming x y (joined v) ((Parts v).run (q ++ x)) ((Parts v).run (q ++ y)) ((lp v).local q x y));
    begins = λ ts. begins_on ts (fv.run ts) (h.lawful.begins ts) (h.lawful.sound ts);
    least = record { value = (h.lawful.least.value, []); tokens = h.lawful.least.tokens; spelled = λ z. join_first (h.lawful.least.tokens ++ z) z z h.lawful.least.value [] (h.lawful.least.spelled z) (refl, refl) };
  }
