-- One form and then another, by the value of the first one.
use Rattle.std.proofs.Common.{◌≡◌, ℕ, ◌<◌, min, Bool, true, false, List, [], ◌∷◌, ◌++◌, length, append_assoc, refl, sym, ap, ◌∙◌, subst, ⊎_elim, inl, arith}
use Rattle.std.proofs.lemmas.Bool.{false≢true, and_parts, and_from, or_parts, or_left, or_right}
use Rattle.std.specs.Prelude.{◌&&◌, ◌||◌}
use Rattle.jc_lexer.specs.declared.token.Token.{Token}
use Rattle.jc_grammar.specs.Told.{Told}
use Rattle.jc_reading.specs.Reading.{Read, Found, Stopped, noting, ◌>>=◌, becoming, joined, Takes}
use Rattle.jc_reading.proofs.Steps.{Good, Goes, IsFound, Refuses, reach, Moves, Plain, good_becoming, good_bind, within_becoming, within_bind, goes_becoming, goes_after, found_becoming, found_bind, reach_noting, reach_becoming, moves_becoming, moves_bind, takes_cut, takes_join, takes_front}
use Rattle.jc_reading.proofs.Forms.{Form, Stands, Begins, Least, Opens, Lawful, begins_pick, begins_behind}
use Rattle.jc_reading.specs.Further.{by_value}
use Rattle.jc_reading.specs.Reach.{Within}

module _ (A B : Type 0) (fa : Form A) (fb : A → Form B) (starts goes_on : List Token → Bool) where
  abbrev pub depending : Form (A × B)
  depending = record {
    tell = λ p r. fa.tell p.0 ((fb p.0).tell p.1 r);
    fits = λ p. fa.fits p.0 && (fb p.0).fits p.1;
    run = by_value fa.run (λ a. (fb a).run);
    starts = λ ts. fa.starts ts || (fa.empties && starts ts);
    goes_on = goes_on;
    empties = false;
  }

  -- the second form is never empty, and where it begins the first one doesn't go on
  pub record Depends : Type 0 where
    pub solid : (a : A) → (fb a).empties ≡ false
    pub begun : (a : A) (ts : List Token) → (fb a).starts ts ≡ true → starts ts ≡ true
    pub going : (a : A) (ts : List Token) → (fb a).goes_on ts ≡ true → goes_on ts ≡ true
    pub meet : (ts : List Token) → starts ts ≡ true → fa.goes_on ts ≡ false

module _ (A B : Type 0) (fa : Form A) (fb : A → Form B) (starts goes_on : List Token → Bool) (la : Lawful A fa) (lb : (a : A) → Lawful B (fb a)) (d : Depends A B fa fb starts goes_on) where
  abbrev Both : Form (A × B)
  Both = depending A B fa fb starts goes_on

  not_so : (b c : Bool) → (b ≡ true → c ≡ true) → c ≡ false → b ≡ false
  not_so true c f e = absurd (false≢true (sym e ∙ f refl))
  not_so false c f e = refl

  begun : (a : A) (m : List Token) (b : B) (r : List Token) → Stands (fb a) m b r → (starts m ≡ true) × (length r < length m)
  begun a m b r s = ⊎_elim (λ o. (d.begun a m o.0, o.1)) (λ o. absurd (false≢true (sym (d.solid a) ∙ o.1))) ((lb a).opens m b r s)

  cut : (ts : List Token) (p : A × B) (r : List Token) → Stands Both ts p r → (m : List Token) × Stands fa ts p.0 m × Stands (fb p.0) m p.1 r
  cut ts p r s =
      let f = and_parts (fa.fits p.0) ((fb p.0).fits p.1) s.1 in
      let e = subst (λ (l : List Told). Takes false l ts r) (la.appends p.0 ((fb p.0).tell p.1 []) f.0) s.0 in
      let w = takes_cut false (fa.tell p.0 []) ((fb p.0).tell p.1 []) ts r e in
      (w.0, (w.1, f.0), (w.2, f.1))

  join : (ts m r : List Token) (a : A) (b : B) → Stands fa ts a m → Stands (fb a) m b r → Stands Both ts (a, b) r
  join ts m r a b s t =
      (subst (λ (l : List Told). Takes false l ts r) (sym (la.appends a ((fb a).tell b []) s.1)) (takes_join false (fa.tell a []) ((fb a).tell b []) ts m r ((lb a).plain b t.1) s.0 t.0), and_from (fa.fits a) ((fb a).fits b) s.1 t.1)

  appends_pair : (p : A × B) (r : List Told) → Both.fits p ≡ true → Both.tell p r ≡ Both.tell p [] ++ r
  appends_pair p r g =
      let f = and_parts (fa.fits p.0) ((fb p.0).fits p.1) g in
      ap (fa.tell p.0) ((lb p.0).appends p.1 r f.1) ∙ la.appends p.0 ((fb p.0).tell p.1 [] ++ r) f.0 ∙ sym (append_assoc (fa.tell p.0 []) ((fb p.0).tell p.1 []) r)
      ∙ ap (λ (l : List Told). l ++ r) (sym (la.appends p.0 ((fb p.0).tell p.1 []) f.0))

  plain_both : (x y : List Told) → Plain x → Plain y → Plain (x ++ y)
  plain_both [] y p q = q
  plain_both (d ∷ x) y p q = p

  plain_pair : (p : A × B) → Both.fits p ≡ true → Plain (Both.tell p [])
  plain_pair p g =
      let f = and_parts (fa.fits p.0) ((fb p.0).fits p.1) g in
      subst (λ (l : List Told). Plain l) (sym (la.appends p.0 ((fb p.0).tell p.1 []) f.0)) (plain_both (fa.tell p.0 []) ((fb p.0).tell p.1 []) (la.plain p.0 f.0) ((lb p.0).plain p.1 f.1))

  within_both : (ts : List Token) → Within (length ts) (Both.run ts)
  within_both ts = within_bind (length ts) (fa.run ts) _ (la.within ts) (λ a q. within_becoming (length q) (joined a) ((fb a).run q) ((lb a).within q))

  sound_both : (ts : List Token) → Good (Stands Both ts) (Both.run ts)
  sound_both ts =
      good_bind (Stands fa ts) (Stands Both ts) (fa.run ts) _ (la.sound ts)
      (λ a q s. good_becoming (Stands (fb a) q) (Stands Both ts) (joined a) ((fb a).run q) ((lb a).sound q) (λ b r t. join ts q r a b s t))

  longest_both : (ts : List Token) (p : A × B) (r : List Token) → Stands Both ts p r → Goes (length r) (Both.run ts)
  longest_both ts p r s =
      let w = cut ts p r s in
      let o = begun p.0 w.0 p.1 r w.2 in
      goes_after p.0 w.0 (length r) (fa.run ts) _ (la.exact ts p.0 w.0 w.1 (d.meet w.0 o.0)) (goes_becoming (length r) (joined p.0) ((fb p.0).run w.0) ((lb p.0).longest w.0 p.1 r w.2))

  exact_both : (ts : List Token) (p : A × B) (r : List Token) → Stands Both ts p r → goes_on r ≡ false → IsFound p r (Both.run ts)
  exact_both ts p r s g =
      let w = cut ts p r s in
      let o = begun p.0 w.0 p.1 r w.2 in
      found_bind p.0 w.0 p r (fa.run ts) _ (la.exact ts p.0 w.0 w.1 (d.meet w.0 o.0)) (found_becoming (joined p.0) p.1 r ((fb p.0).run w.0) ((lb p.0).exact w.0 p.1 r w.2 (not_so ((fb p.0).goes_on r) (goes_on r) (d.going p.0 r) g)))

  opens_both : (ts : List Token) (p : A × B) (r : List Token) → Stands Both ts p r → Opens Both ts r
  opens_both ts p r s =
      let w = cut ts p r s in
      let i = begun p.0 w.0 p.1 r w.2 in
      ⊎_elim
      (λ o. inl (or_left (fa.starts ts) (fa.empties && starts ts) o.0, omega (arith, o.1, i.1)))
      (λ o. inl (or_right (fa.starts ts) (fa.empties && starts ts) (and_from fa.empties (starts ts) o.1 (subst (λ (l : List Token). starts l ≡ true) (sym o.0) i.0)), omega (arith, i.1, ap length o.0)))
      (la.opens ts p.0 w.0 w.1)

  refuses_second : (ts : List Token) (c : Bool) (l : ℕ) (a : A) (m : Read B) → c ≡ false → Refuses c ts m → Refuses false ts (noting l (becoming (joined a) m))
  refuses_second ts c l a (Found b r k) e h = absurd (false≢true (sym e ∙ h.0))
  refuses_second ts c l a (Stopped k) e h = refl

  refuses_on : (ts : List Token) (m : Read A) → Refuses fa.empties ts m → (fa.empties ≡ true → starts ts ≡ false) → Refuses false ts (m >>= (λ a q. becoming (joined a) ((fb a).run q)))
  refuses_on ts (Found a q l) h k =
      subst (λ (v : List Token). Refuses false ts (noting l (becoming (joined a) ((fb a).run v)))) (sym h.1)
      (refuses_second ts (fb a).empties l a ((fb a).run ts) (d.solid a) ((lb a).refuses ts (not_so ((fb a).starts ts) (starts ts) (d.begun a ts) (k h.0))))
  refuses_on ts (Stopped l) h k = refl

  alone : (b c : Bool) → b ≡ true → (b && c) ≡ false → c ≡ false
  alone true c e f = f
  alone false c e f = absurd (false≢true e)

  local_both : (p x y : List Token) → Moves x y (Both.run (p ++ x)) (Both.run (p ++ y))
  local_both p x y =
      moves_bind x y p (fa.run (p ++ x)) (fa.run (p ++ y)) _ _ (la.within (p ++ x)) (la.local p x y)
      (λ a q l. moves_becoming x y (joined a) ((fb a).run (q ++ x)) ((fb a).run (q ++ y)) ((lb a).local q x y))

  begins_first : (ts : List Token) (l : ℕ) → Begins A fa ts l → Begins (A × B) Both ts l
  begins_first ts l b =
      let k = (lb b.value).least in
      record {
        front = b.front;
        back = b.back;
        whole = b.whole;
        left = b.left;
        value = (b.value, k.value);
        more = b.more ++ k.tokens;
        spelled = λ z. subst (λ (v : List Token). Stands Both (b.front ++ v) (b.value, k.value) z) (sym (append_assoc b.more k.tokens z))
            (join (b.front ++ (b.more ++ (k.tokens ++ z))) (k.tokens ++ z) z b.value k.value (b.spelled (k.tokens ++ z)) (k.spelled z));
      }

  begins_on : (ts : List Token) (m : Read A) → Begins A fa ts (reach m) → Good (Stands fa ts) m → Begins (A × B) Both ts (reach (m >>= (λ a q. becoming (joined a) ((fb a).run q))))
  begins_on ts (Found a q l) b g =
      let f = takes_front false (fa.tell a []) ts q g.0 in
      let same : reach (noting l (becoming (joined a) ((fb a).run q))) ≡ min l (reach ((fb a).run q)) =
      reach_noting l (becoming (joined a) ((fb a).run q)) ∙ ap (λ k. min l k) (reach_becoming (joined a) ((fb a).run q)) in
      subst (λ k. Begins (A × B) Both ts k) (sym same)
      (begins_pick (A × B) Both ts l (reach ((fb a).run q)) (begins_first ts l b)
      (begins_behind B (A × B) (fb a) Both (λ c. (a, c)) f.0 q ts (reach ((fb a).run q)) f.1 (λ us c z t. join (f.0 ++ us) us z a c (f.2 us, g.1) t) ((lb a).begins q)))
  begins_on ts (Stopped l) b g = begins_first ts l b

  least_both : Least (A × B) Both
  least_both = record {
    value = (la.least.value, (lb la.least.value).least.value);
    tokens = la.least.tokens ++ (lb la.least.value).least.tokens;
    spelled = λ z. subst (λ (l : List Token). Stands Both l (la.least.value, (lb la.least.value).least.value) z) (sym (append_assoc la.least.tokens (lb la.least.value).least.tokens z))
        (join (la.least.tokens ++ ((lb la.least.value).least.tokens ++ z)) ((lb la.least.value).least.tokens ++ z) z la.least.value (lb la.least.value).least.value (la.least.spelled ((lb la.least.value).least.tokens ++ z)) ((lb la.least.value).least.spelled z));
  }

  pub depending_laws : Lawful (A × B) Both
  depending_laws = record {
    appends = appends_pair;
    plain = plain_pair;
    within = within_both;
    sound = sound_both;
    longest = longest_both;
    exact = exact_both;
    opens = opens_both;
    refuses = λ ts h. let o = or_parts (fa.starts ts) (fa.empties && starts ts) h in refuses_on ts (fa.run ts) (la.refuses ts o.0) (λ e. alone fa.empties (starts ts) e o.1);
    total = λ e ts. absurd (false≢true e);
    local = local_both;
    begins = λ ts. begins_on ts (fa.run ts) (la.begins ts) (la.sound ts);
    least = least_both;
  }
