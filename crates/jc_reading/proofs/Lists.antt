-- A form any number of times.
use Rattle.std.proofs.Common.{◌≡◌, ℕ, zero, suc, ◌+◌, ◌<◌, ◌≤◌, min, Bool, true, false, List, [], ◌∷◌, ◌++◌, length, length-append, append_assoc, refl, sym, ap, ◌∙◌, subst, ⊎_elim, inl, inr, arith}
use Rattle.std.proofs.lemmas.Bool.{false≢true, and_parts, and_from, or_parts}
use Rattle.std.specs.Prelude.{◌&&◌, ◌||◌}
use Rattle.jc_lexer.specs.declared.token.Token.{Token}
use Rattle.jc_grammar.specs.Told.{Told}
use Rattle.jc_reading.specs.Reading.{Read, Found, Stopped, noting, becoming, one_more, times, any_number, Takes}
use Rattle.jc_reading.proofs.Steps.{Good, Goes, IsFound, Refuses, reach, Moved, Moves, Plain, good_becoming, good_noting, within_becoming, within_noting, within_more, goes_becoming, goes_noting, goes_more, found_becoming, found_noting, reach_noting, reach_becoming, moves_becoming, moved_noting, moves_none, takes_cut, takes_join, takes_front, takes_length}
use Rattle.jc_reading.proofs.Forms.{Form, Stands, Begins, Opens, Lawful, begins_pick, begins_behind, begins_full, begins_as}
use Rattle.jc_reading.specs.Reach.{Within}

-- one behind the other
abbrev pub tell_all : {A : Type 0} → (A → List Told → List Told) → List A → List Told → List Told
tell_all tell [] r = r
tell_all tell (a ∷ list) r = tell a (tell_all tell list r)

abbrev pub fits_all : {A : Type 0} → (A → Bool) → List A → Bool
fits_all fits [] = true
fits_all fits (a ∷ list) = fits a && fits_all fits list

module _ (A : Type 0) (fa : Form A) where
  abbrev pub many : Form (List A)
  many = record {
    tell = tell_all fa.tell;
    fits = fits_all fa.fits;
    run = any_number fa.run;
    starts = fa.starts;
    goes_on = λ ts. fa.starts ts || fa.goes_on ts;
    empties = true;
  }

  -- none is empty, and where one begins the one before doesn't go on
  pub record Follows : Type 0 where
    pub solid : fa.empties ≡ false
    pub next : (ts : List Token) → fa.starts ts ≡ true → fa.goes_on ts ≡ false

module _ (A : Type 0) (fa : Form A) (la : Lawful A fa) (h : Follows A fa) where
  abbrev Many : Form (List A)
  Many = many A fa

  appends_many : (list : List A) (r : List Told) → Many.fits list ≡ true → Many.tell list r ≡ Many.tell list [] ++ r
  appends_many [] r g = refl
  appends_many (a ∷ list) r g =
      let f = and_parts (fa.fits a) (Many.fits list) g in
      ap (fa.tell a) (appends_many list r f.1) ∙ la.appends a (Many.tell list [] ++ r) f.0 ∙ sym (append_assoc (fa.tell a []) (Many.tell list []) r)
      ∙ ap (λ (l : List Told). l ++ r) (sym (la.appends a (Many.tell list []) f.0))

  plain_both : (x y : List Told) → Plain x → Plain y → Plain (x ++ y)
  plain_both [] y p q = q
  plain_both (d ∷ x) y p q = p

  plain_many : (list : List A) → Many.fits list ≡ true → Plain (Many.tell list [])
  plain_many [] g = tt
  plain_many (a ∷ list) g =
      let f = and_parts (fa.fits a) (Many.fits list) g in
      subst (λ (l : List Told). Plain l) (sym (la.appends a (Many.tell list []) f.0)) (plain_both (fa.tell a []) (Many.tell list []) (la.plain a f.0) (plain_many list f.1))

  cut : (ts : List Token) (a : A) (list : List A) (r : List Token) → Stands Many ts (a ∷ list) r → (m : List Token) × Stands fa ts a m × Stands Many m list r
  cut ts a list r s =
      let f = and_parts (fa.fits a) (Many.fits list) s.1 in
      let e = subst (λ (l : List Told). Takes false l ts r) (la.appends a (Many.tell list []) f.0) s.0 in
      let w = takes_cut false (fa.tell a []) (Many.tell list []) ts r e in
      (w.0, (w.1, f.0), (w.2, f.1))

  join : (ts m r : List Token) (a : A) (list : List A) → Stands fa ts a m → Stands Many m list r → Stands Many ts (a ∷ list) r
  join ts m r a list s t =
      (subst (λ (l : List Told). Takes false l ts r) (sym (la.appends a (Many.tell list []) s.1)) (takes_join false (fa.tell a []) (Many.tell list []) ts m r (plain_many list t.1) s.0 t.0), and_from (fa.fits a) (Many.fits list) s.1 t.1)

  -- one takes a token at least
  shorter : (ts : List Token) (a : A) (m : List Token) → Stands fa ts a m → length m < length ts
  shorter ts a m s = ⊎_elim (λ o. o.1) (λ o. absurd (false≢true (sym h.solid ∙ o.1))) (la.opens ts a m s)

  begun : (ts : List Token) (a : A) (m : List Token) → Stands fa ts a m → fa.starts ts ≡ true
  begun ts a m s = ⊎_elim (λ o. o.0) (λ o. absurd (false≢true (sym h.solid ∙ o.1))) (la.opens ts a m s)

  within_one : (ts : List Token) (m : Read A) (rest : List Token → Read (List A)) → Within (length ts) m → ((q : List Token) → Within (length q) (rest q)) → Within (length ts) (one_more ts m rest)
  within_one ts (Found a q l) rest w f = within_noting l (length ts) (becoming (λ more. a ∷ more) (rest q)) (within_more (length q) (length ts) _ w.1 (within_becoming (length q) (λ more. a ∷ more) (rest q) (f q)))
  within_one ts (Stopped l) rest w f = (w, omega arith)

  within_times : (n : ℕ) (ts : List Token) → Within (length ts) (times n fa.run ts)
  unfolding times
  within_times zero ts = (omega arith, omega arith)
  within_times (suc n) ts = within_one ts (fa.run ts) (times n fa.run) (la.within ts) (within_times n)

  sound_one : (ts : List Token) (m : Read A) (rest : List Token → Read (List A)) → Good (Stands fa ts) m → ((q : List Token) → Good (Stands Many q) (rest q)) → Good (Stands Many ts) (one_more ts m rest)
  sound_one ts (Found a q l) rest s f = good_noting (Stands Many ts) l (becoming (λ more. a ∷ more) (rest q)) (good_becoming (Stands Many q) (Stands Many ts) (λ more. a ∷ more) (rest q) (f q) (λ list r t. join ts q r a list s t))
  sound_one ts (Stopped l) rest s f = (refl, refl)

  sound_times : (n : ℕ) (ts : List Token) → Good (Stands Many ts) (times n fa.run ts)
  unfolding times
  sound_times zero ts = (refl, refl)
  sound_times (suc n) ts = sound_one ts (fa.run ts) (times n fa.run) (la.sound ts) (sound_times n)

  goes_one : (ts : List Token) (m : Read A) (rest : List Token → Read (List A)) → Within (length ts) m → ((q : List Token) → Goes (length q) (rest q)) → Goes (length ts) (one_more ts m rest)
  goes_one ts (Found a q l) rest w f = goes_noting l (length ts) (becoming (λ more. a ∷ more) (rest q)) (goes_more (length q) (length ts) _ w.1 (goes_becoming (length q) (λ more. a ∷ more) (rest q) (f q)))
  goes_one ts (Stopped l) rest w f = omega arith

  goes_times : (n : ℕ) (ts : List Token) → Goes (length ts) (times n fa.run ts)
  unfolding times
  goes_times zero ts = omega arith
  goes_times (suc n) ts = goes_one ts (fa.run ts) (times n fa.run) (la.within ts) (goes_times n)

  -- behind one that is found exactly
  goes_next : (k : ℕ) (ts q : List Token) (a : A) (m : Read A) (rest : List Token → Read (List A)) → IsFound a q m → Goes k (rest q) → Goes k (one_more ts m rest)
  goes_next k ts q a m rest f g = subst (λ (v : Read A). Goes k (one_more ts v rest)) (sym f.1) (goes_noting f.0 k (becoming (λ more. a ∷ more) (rest q)) (goes_becoming k (λ more. a ∷ more) (rest q) g))

  goes_last : (k : ℕ) (ts : List Token) (m : Read A) (rest : List Token → Read (List A)) → Goes k m → ((q : List Token) → Goes (length q) (rest q)) → Goes k (one_more ts m rest)
  goes_last k ts (Found a q l) rest g f = goes_noting l k (becoming (λ more. a ∷ more) (rest q)) (goes_more (length q) k _ g (goes_becoming (length q) (λ more. a ∷ more) (rest q) (f q)))
  goes_last k ts (Stopped l) rest g f = absurd g

  longest_times : (n : ℕ) (ts : List Token) (list : List A) (r : List Token) → length ts ≤ n → Stands Many ts list r → Goes (length r) (times n fa.run ts)
  unfolding times
  longest_times n ts [] r e s = subst (λ (l : List Token). Goes (length l) (times n fa.run ts)) s.0 (goes_times n ts)
  longest_times zero ts (a ∷ list) r e s = let w = cut ts a list r s in let lt = shorter ts a w.0 w.1 in absurd (omega (arith, lt, e))
  longest_times (suc n) ts (a ∷ []) r e s =
      let w = cut ts a [] r s in
      goes_last (length r) ts (fa.run ts) (times n fa.run) (subst (λ (l : List Token). Goes (length l) (fa.run ts)) w.2.0 (la.longest ts a w.0 w.1)) (goes_times n)
  longest_times (suc n) ts (a ∷ b ∷ list) r e s =
      let w = cut ts a (b ∷ list) r s in
      let lt = shorter ts a w.0 w.1 in
      let u = cut w.0 b list r w.2 in
      goes_next (length r) ts w.0 a (fa.run ts) (times n fa.run) (la.exact ts a w.0 w.1 (h.next w.0 (begun w.0 b u.0 u.1))) (longest_times n w.0 (b ∷ list) r (omega (arith, lt, e)) w.2)

  none_one : (ts : List Token) (m : Read A) (rest : List Token → Read (List A)) → Refuses fa.empties ts m → IsFound [] ts (one_more ts m rest)
  none_one ts (Found a q l) rest k = absurd (false≢true (sym h.solid ∙ k.0))
  none_one ts (Stopped l) rest k = (l, refl)

  found_none : (n : ℕ) (ts : List Token) → fa.starts ts ≡ false → IsFound [] ts (times n fa.run ts)
  unfolding times
  found_none zero ts g = (length ts, refl)
  found_none (suc n) ts g = none_one ts (fa.run ts) (times n fa.run) (la.refuses ts g)

  found_next : (ts q r : List Token) (a : A) (list : List A) (m : Read A) (rest : List Token → Read (List A)) → IsFound a q m → IsFound list r (rest q) → IsFound (a ∷ list) r (one_more ts m rest)
  found_next ts q r a list m rest f g =
      let w = found_noting f.0 (a ∷ list) r (becoming (λ more. a ∷ more) (rest q)) (found_becoming (λ more. a ∷ more) list r (rest q) g) in
      (w.0, ap (λ (v : Read A). one_more ts v rest) f.1 ∙ w.1)

  exact_times : (n : ℕ) (ts : List Token) (list : List A) (r : List Token) → length ts ≤ n → Stands Many ts list r → Many.goes_on r ≡ false → IsFound list r (times n fa.run ts)
  unfolding times
  exact_times n ts [] r e s g = subst (λ (l : List Token). IsFound [] l (times n fa.run ts)) s.0 (found_none n ts (subst (λ (l : List Token). fa.starts l ≡ false) (sym s.0) (or_parts (fa.starts r) (fa.goes_on r) g).0))
  exact_times zero ts (a ∷ list) r e s g = let w = cut ts a list r s in let lt = shorter ts a w.0 w.1 in absurd (omega (arith, lt, e))
  exact_times (suc n) ts (a ∷ []) r e s g =
      let w = cut ts a [] r s in
      let o = or_parts (fa.starts r) (fa.goes_on r) g in
      found_next ts w.0 r a [] (fa.run ts) (times n fa.run) (la.exact ts a w.0 w.1 (subst (λ (l : List Token). fa.goes_on l ≡ false) (sym w.2.0) o.1))
      (subst (λ (l : List Token). IsFound [] l (times n fa.run w.0)) w.2.0 (found_none n w.0 (subst (λ (l : List Token). fa.starts l ≡ false) (sym w.2.0) o.0)))
  exact_times (suc n) ts (a ∷ b ∷ list) r e s g =
      let w = cut ts a (b ∷ list) r s in
      let lt = shorter ts a w.0 w.1 in
      let u = cut w.0 b list r w.2 in
      found_next ts w.0 r a (b ∷ list) (fa.run ts) (times n fa.run) (la.exact ts a w.0 w.1 (h.next w.0 (begun w.0 b u.0 u.1))) (exact_times n w.0 (b ∷ list) r (omega (arith, lt, e)) w.2 g)

  opens_many : (ts : List Token) (list : List A) (r : List Token) → Stands Many ts list r → Opens Many ts r
  opens_many ts [] r s = inr (s.0, refl)
  opens_many ts (a ∷ list) r s =
      let w = cut ts a list r s in
      inl (begun ts a w.0 w.1, omega (arith, shorter ts a w.0 w.1, later w.0 list r w.2))
    where
      later : (m : List Token) (list : List A) (r : List Token) → Stands Many m list r → length r ≤ length m
      later m list r t = omega (arith, takes_length false (Many.tell list []) m r t.0)

  refuses_many : (ts : List Token) (m : Read (List A)) → IsFound [] ts m → Refuses true ts m
  refuses_many ts m f = subst (λ (v : Read (List A)). Refuses true ts v) (sym f.1) (refl, refl)

  moves_one : (x y p : List Token) (m n : Read A) (f g : List Token → Read (List A)) → Within (length (p ++ x)) m → Good (λ a r. length r < length (p ++ x)) m → Moves x y m n → ((q : List Token) → length q < length p → Moves x y (f (q ++ x)) (g (q ++ y))) → Moves x y (one_more (p ++ x) m f) (one_more (p ++ y) n g)
  moves_one x y p (Found a r l) (Found b s k) f g wi gd mv i lt =
      let u : length x < min l (reach (f r)) = subst (λ (j : ℕ). length x < j) (reach_noting l (becoming (λ more. a ∷ more) (f r)) ∙ ap (λ j. min l j) (reach_becoming (λ more. a ∷ more) (f r))) lt in
      let w = mv (omega arith) in
      let less : length w.1 < length p = omega (arith, ap length w.2, length-append w.1 x, length-append p x, gd) in
      moved_two a b r s w.1 l k w.0 w.2 w.3 w.4 (i w.1 less) (omega arith)
    where
      moved_two : (a b : A) (r s q : List Token) (l k : ℕ) → a ≡ b → r ≡ q ++ x → s ≡ q ++ y → l + length y ≡ k + length x → Moves x y (f (q ++ x)) (g (q ++ y)) → length x < reach (f r) → Moved x y (noting l (becoming (λ more. a ∷ more) (f r))) (noting k (becoming (λ more. b ∷ more) (g s)))
      moved_two a b r s q l k ab rq sq e mv lt =
          let lt' = subst (λ (v : List Token). length x < reach (f v)) rq lt in
          let lt'' = subst (λ (j : ℕ). length x < j) (sym (reach_becoming (λ more. a ∷ more) (f (q ++ x)))) lt' in
          let m = moved_noting x y l k (becoming (λ more. a ∷ more) (f (q ++ x))) (becoming (λ more. a ∷ more) (g (q ++ y))) e (moves_becoming x y (λ more. a ∷ more) (f (q ++ x)) (g (q ++ y)) mv lt'') in
          let m1 = subst (λ (v : List Token). Moved x y (noting l (becoming (λ more. a ∷ more) (f v))) (noting k (becoming (λ more. a ∷ more) (g (q ++ y))))) (sym rq) m in
          let m2 = subst (λ (v : List Token). Moved x y (noting l (becoming (λ more. a ∷ more) (f r))) (noting k (becoming (λ more. a ∷ more) (g v)))) (sym sq) m1 in
          subst (λ (c : A). Moved x y (noting l (becoming (λ more. a ∷ more) (f r))) (noting k (becoming (λ more. c ∷ more) (g s)))) ab m2
  moves_one x y p (Stopped l) (Stopped k) f g wi gd mv i lt = (refl, p, refl, refl, mv lt)
  moves_one x y p (Found a r l) (Stopped k) f g wi gd mv i lt =
      let u : length x < min l (reach (f r)) = subst (λ (j : ℕ). length x < j) (reach_noting l (becoming (λ more. a ∷ more) (f r)) ∙ ap (λ j. min l j) (reach_becoming (λ more. a ∷ more) (f r))) lt in absurd (mv (omega arith))
  moves_one x y p (Stopped l) (Found b s k) f g wi gd mv i lt = absurd (mv lt)

  less : (ts : List Token) (m : Read A) → Good (Stands fa ts) m → Good (λ a r. length r < length ts) m
  less ts (Found a r l) g = shorter ts a r g
  less ts (Stopped l) g = tt

  local_times : (n k : ℕ) (p x y : List Token) → length (p ++ x) ≤ n → length (p ++ y) ≤ k → Moves x y (times n fa.run (p ++ x)) (times k fa.run (p ++ y))
  unfolding times
  local_times zero k [] x y e f = moves_none x y (times zero fa.run x) (times k fa.run y) (within_times zero x)
  local_times zero k (t ∷ p) x y e f = absurd (omega arith)
  local_times (suc n) zero [] x y e f = moves_none x y (times (suc n) fa.run x) (times zero fa.run y) (within_times (suc n) x)
  local_times (suc n) zero (t ∷ p) x y e f = absurd (omega arith)
  local_times (suc n) (suc k) p x y e f =
      moves_one x y p (fa.run (p ++ x)) (fa.run (p ++ y)) (times n fa.run) (times k fa.run) (la.within (p ++ x)) (less (p ++ x) (fa.run (p ++ x)) (la.sound (p ++ x))) (la.local p x y)
      (λ q lt. local_times n k q x y (omega (arith, length-append q x, length-append p x)) (omega (arith, length-append q y, length-append p y)))

  begins_first : (ts : List Token) (l : ℕ) → Begins A fa ts l → Begins (List A) Many ts l
  begins_first ts l b = begins_as A (List A) fa Many (λ a. a ∷ []) ts l (λ us a z s. join us z z a [] s (refl, refl)) b

  begins_one : (ts : List Token) (m : Read A) (rest : List Token → Read (List A)) → Begins A fa ts (reach m) → Good (Stands fa ts) m → ((q : List Token) → length q < length ts → Begins (List A) Many q (reach (rest q))) → Begins (List A) Many ts (reach (one_more ts m rest))
  begins_one ts (Found a q l) rest b g f =
      let t = takes_front false (fa.tell a []) ts q g.0 in
      let same : reach (noting l (becoming (λ more. a ∷ more) (rest q))) ≡ min l (reach (rest q)) =
      reach_noting l (becoming (λ more. a ∷ more) (rest q)) ∙ ap (λ k. min l k) (reach_becoming (λ more. a ∷ more) (rest q)) in
      subst (λ k. Begins (List A) Many ts k) (sym same)
      (begins_pick (List A) Many ts l (reach (rest q)) (begins_first ts l b)
      (begins_behind (List A) (List A) Many Many (λ list. a ∷ list) t.0 q ts (reach (rest q)) t.1 (λ us list z s. join (t.0 ++ us) us z a list (t.2 us, g.1) s) (f q (shorter ts a q g))))
  begins_one ts (Stopped l) rest b g f = begins_first ts l b

  begins_times : (n : ℕ) (ts : List Token) → length ts ≤ n → Begins (List A) Many ts (reach (times n fa.run ts))
  unfolding times
  begins_times zero ts e = begins_full (List A) Many ts [] ts (refl, refl)
  begins_times (suc n) ts e = begins_one ts (fa.run ts) (times n fa.run) (la.begins ts) (la.sound ts) (λ q lt. begins_times n q (omega (arith, lt, e)))

  pub many_laws : Lawful (List A) Many
  many_laws = record {
    appends = appends_many;
    plain = plain_many;
    within = λ ts. within_times (length ts) ts;
    sound = λ ts. sound_times (length ts) ts;
    longest = λ ts list r s. longest_times (length ts) ts list r (omega arith) s;
    exact = λ ts list r s g. exact_times (length ts) ts list r (omega arith) s g;
    opens = opens_many;
    refuses = λ ts g. refuses_many ts (Many.run ts) (found_none (length ts) ts g);
    total = λ e ts. goes_times (length ts) ts;
    local = λ p x y. local_times (length (p ++ x)) (length (p ++ y)) p x y (omega arith) (omega arith);
    begins = λ ts. begins_times (length ts) ts (omega arith);
    least = record { value = []; tokens = []; spelled = λ z. (refl, refl) };
  }
