-- Parts one behind the other, where how one is read is told by the part before it and by whether that ends with a touching `>`.
use Rattle.std.proofs.Common.{◌≡◌, ℕ, zero, suc, ◌+◌, ◌<◌, ◌≤◌, min, Bool, true, false, List, [], ◌∷◌, ◌++◌, length, length-append, append_assoc, refl, sym, ap, ◌∙◌, subst, ◌⊎◌, inl, inr, arith}
use Rattle.std.proofs.lemmas.Bool.{false≢true, and_parts, and_from}
use Rattle.std.specs.Prelude.{◌&&◌}
use Rattle.jc_lexer.specs.declared.token.Token.{Token}
use Rattle.jc_grammar.specs.Told.{Told}
use Rattle.jc_reading.specs.Reading.{Read, Found, Stopped, Run, noting, becoming, Takes}
use Rattle.jc_reading.specs.Growing.{one_then}
use Rattle.jc_reading.proofs.Steps.{Good, Goes, IsFound, Refuses, reach, Moved, Moves, Plain, good_becoming, good_noting, within_becoming, within_noting, within_more, goes_becoming, goes_noting, goes_more, found_becoming, found_noting, reach_noting, reach_becoming, moves_becoming, moved_noting, moves_none, takes_front, takes_length}
use Rattle.jc_reading.proofs.Forms.{Form, Stands, Begins, Opens, Lawful, begins_pick, begins_behind, begins_full, begins_as}
use Rattle.jc_reading.proofs.Lists.{tell_all}
use Rattle.jc_reading.proofs.Stepwise.{Steady}
use Rattle.jc_reading.specs.Reach.{Within}
use Rattle.jc_expr_laws.specs.CompareReading.{touched_before, links, linked}
use Rattle.jc_expr_laws.proofs.CompareMarks.{cut_marked, join_marked, same_mark}
use Rattle.jc_expr_laws.proofs.LevelChains.{plain_front}

-- a part is told `soft` where any token may stand before it, and `hard` where one that touches may not
module _ (V P : Type 0) (make : V → P → V) (soft hard : P → List Told → List Told) (fits : V → Bool → P → Bool) (run : V → Bool → Run P) (starts ends : List Token → Bool) where
  abbrev pub link : V → Bool → Form P
  link v b = record { tell = soft; fits = fits v b; run = run v b; starts = starts; goes_on = ends; empties = false }

  abbrev pub hards : List P → List Told → List Told
  hards list r = tell_all hard list r

  abbrev pub tells : List P → List Told → List Told
  tells [] r = r
  tells (p ∷ list) r = soft p (hards list r)

  abbrev pub fits_on : V → List P → Bool
  fits_on v [] = true
  fits_on v (p ∷ list) = fits v false p && fits_on (make v p) list

  abbrev pub fits_links : V → Bool → List P → Bool
  fits_links v b [] = true
  fits_links v b (p ∷ list) = fits v b p && fits_on (make v p) list

  abbrev pub links_form : V → Bool → Form (List P)
  links_form v b = record { tell = tells; fits = fits_links v b; run = linked make run v b; starts = starts; goes_on = ends; empties = true }

  pub record Linking : Type 0 where
    pub steady : (v : V) (b : Bool) → Steady P (link v b)
    pub hard_appends : (p : P) (r : List Told) → hard p r ≡ hard p [] ++ r
    pub harden : (v : V) (b : Bool) (p : P) (x : List Told) (ts r : List Token) → fits v b p ≡ true → Takes false (soft p x) ts r → Takes b (hard p x) ts r
    pub soften : (v : V) (b : Bool) (p : P) (x : List Told) (ts r : List Token) → fits v false p ≡ true → Takes b (hard p x) ts r → Takes false (soft p x) ts r × (fits v b p ≡ true)
    pub looser : (v : V) (b : Bool) (p : P) → fits v b p ≡ true → fits v false p ≡ true
    -- where the whole may end no part begins
    pub over : (ts : List Token) → ends ts ≡ false → starts ts ≡ false
    -- a part with another one behind it is found exactly
    pub next : (v : V) (b : Bool) (ts : List Token) (p : P) (m : List Token) (q : P) (r : List Token) → Stands (link v b) ts p m → Stands (link (make v p) (touched_before ts (length m))) m q r → IsFound p m (run v b ts)

module _ (V P : Type 0) (make : V → P → V) (soft hard : P → List Told → List Told) (fits : V → Bool → P → Bool) (run : V → Bool → Run P) (starts ends : List Token → Bool) (h : Linking V P make soft hard fits run starts ends) where
  abbrev Part : V → Bool → Form P
  Part v b = link V P make soft hard fits run starts ends v b

  abbrev Parts : V → Bool → Form (List P)
  Parts v b = links_form V P make soft hard fits run starts ends v b

  abbrev Hards : List P → List Told → List Told
  Hards list r = tell_all hard list r

  abbrev On : V → List P → Bool
  On v list = fits_on V P make soft hard fits run starts ends v list

  abbrev Links_at : ℕ → V → Bool → Run (List P)
  Links_at n v b ts = links n make run v b ts

  abbrev Next : ℕ → V → List Token → P → List Token → Read (List P)
  Next n v ts p q = links n make run (make v p) (touched_before ts (length q)) q

  hards_append : (list : List P) (r : List Told) → Hards list r ≡ Hards list [] ++ r
  hards_append [] r = refl
  hards_append (p ∷ list) r =
      ap (hard p) (hards_append list r) ∙ h.hard_appends p (Hards list [] ++ r) ∙ sym (append_assoc (hard p []) (Hards list []) r) ∙ ap (λ (l : List Told). l ++ r) (sym (h.hard_appends p (Hards list [])))

  solid_part : (v : V) (b : Bool) (p : P) → fits v b p ≡ true → soft p [] ≡ [] → ⊥
  solid_part v b p f e =
      let o = (h.steady v b).opens [] p [] (subst (λ (l : List Told). Takes false l [] []) (sym e) refl, f) in omega (arith, o.1)

  appends_all : (v : V) (b : Bool) (list : List P) (r : List Told) → (Parts v b).fits list ≡ true → (Parts v b).tell list r ≡ (Parts v b).tell list [] ++ r
  appends_all v b [] r g = refl
  appends_all v b (p ∷ list) r g =
      let f = and_parts (fits v b p) (On (make v p) list) g in
      ap (soft p) (hards_append list r) ∙ (h.steady v b).appends p (Hards list [] ++ r) f.0 ∙ sym (append_assoc (soft p []) (Hards list []) r)
      ∙ ap (λ (l : List Told). l ++ r) (sym ((h.steady v b).appends p (Hards list []) f.0))

  plain_all : (v : V) (b : Bool) (list : List P) → (Parts v b).fits list ≡ true → Plain ((Parts v b).tell list [])
  plain_all v b [] g = tt
  plain_all v b (p ∷ list) g =
      let f = and_parts (fits v b p) (On (make v p) list) g in
      subst (λ (l : List Told). Plain l) (sym ((h.steady v b).appends p (Hards list []) f.0)) (plain_front (soft p []) (Hards list []) (solid_part v b p f.0) ((h.steady v b).plain p f.0))

  -- the parts behind a part, by what stands before them
  softened : (v : V) (b : Bool) (list : List P) (ts r : List Token) → Takes b (Hards list []) ts r → On v list ≡ true → Stands (Parts v b) ts list r
  softened v b [] ts r s g = (s, refl)
  softened v b (p ∷ list) ts r s g =
      let f = and_parts (fits v false p) (On (make v p) list) g in
      let w = h.soften v b p (Hards list []) ts r f.0 s in
      (w.0, and_from (fits v b p) (On (make v p) list) w.1 f.1)

  hardened : (v : V) (b : Bool) (list : List P) (ts r : List Token) → Stands (Parts v b) ts list r → Takes b (Hards list []) ts r × (On v list ≡ true)
  hardened v b [] ts r s = (s.0, refl)
  hardened v b (p ∷ list) ts r s =
      let f = and_parts (fits v b p) (On (make v p) list) s.1 in
      (h.harden v b p (Hards list []) ts r f.0 s.0, and_from (fits v false p) (On (make v p) list) (h.looser v b p f.0) f.1)

  pub cut_link : (v : V) (b : Bool) (ts : List Token) (p : P) (list : List P) (r : List Token) → Stands (Parts v b) ts (p ∷ list) r → (m : List Token) × Stands (Part v b) ts p m × Stands (Parts (make v p) (touched_before ts (length m))) m list r
  cut_link v b ts p list r s =
      let f = and_parts (fits v b p) (On (make v p) list) s.1 in
      let e = subst (λ (l : List Told). Takes false l ts r) ((h.steady v b).appends p (Hards list []) f.0) s.0 in
      let w = cut_marked (soft p []) (Hards list []) ts r (solid_part v b p f.0) e in
      (w.0, (w.1, f.0), softened (make v p) (touched_before ts (length w.0)) list w.0 r w.2 f.1)

  join : (v : V) (b : Bool) (ts m r : List Token) (p : P) (list : List P) → Stands (Part v b) ts p m → Stands (Parts (make v p) (touched_before ts (length m))) m list r → Stands (Parts v b) ts (p ∷ list) r
  join v b ts m r p list s t =
      let w = hardened (make v p) (touched_before ts (length m)) list m r t in
      (subst (λ (l : List Told). Takes false l ts r) (sym ((h.steady v b).appends p (Hards list []) s.1)) (join_marked (soft p []) (Hards list []) ts m r (solid_part v b p s.1) s.0 w.0), and_from (fits v b p) (On (make v p) list) s.1 w.1)

  shorter : (v : V) (b : Bool) (ts : List Token) (p : P) (m : List Token) → Stands (Part v b) ts p m → length m < length ts
  shorter v b ts p m s = ((h.steady v b).opens ts p m s).1

  pub links_begin : (v : V) (b : Bool) (ts : List Token) (p : P) (list : List P) (r : List Token) → Stands (Parts v b) ts (p ∷ list) r → starts ts ≡ true
  links_begin v b ts p list r s = let w = cut_link v b ts p list r s in ((h.steady v b).opens ts p w.0 w.1).0

  within_one : (v : V) (n : ℕ) (ts : List Token) (m : Read P) → Within (length ts) m → ((p : P) (q : List Token) → Within (length q) (Next n v ts p q)) → Within (length ts) (one_then ts m (Next n v ts))
  within_one v n ts (Found p q l) w f = within_noting l (length ts) (becoming (λ more. p ∷ more) (Next n v ts p q)) (within_more (length q) (length ts) _ w.1 (within_becoming (length q) (λ more. p ∷ more) (Next n v ts p q) (f p q)))
  within_one v n ts (Stopped l) w f = (w, omega arith)

  within_links : (n : ℕ) (v : V) (b : Bool) (ts : List Token) → Within (length ts) (Links_at n v b ts)
  unfolding links
  within_links zero v b ts = (omega arith, omega arith)
  within_links (suc n) v b ts = within_one v n ts (run v b ts) ((h.steady v b).within ts) (λ p q. within_links n (make v p) (touched_before ts (length q)) q)

  sound_one : (v : V) (b : Bool) (n : ℕ) (ts : List Token) (m : Read P) → Good (Stands (Part v b) ts) m → ((p : P) (q : List Token) → Good (Stands (Parts (make v p) (touched_before ts (length q))) q) (Next n v ts p q)) → Good (Stands (Parts v b) ts) (one_then ts m (Next n v ts))
  sound_one v b n ts (Found p q l) s f = good_noting (Stands (Parts v b) ts) l (becoming (λ more. p ∷ more) (Next n v ts p q)) (good_becoming (Stands (Parts (make v p) (touched_before ts (length q))) q) (Stands (Parts v b) ts) (λ more. p ∷ more) (Next n v ts p q) (f p q) (λ list r t. join v b ts q r p list s t))
  sound_one v b n ts (Stopped l) s f = (refl, refl)

  sound_links : (n : ℕ) (v : V) (b : Bool) (ts : List Token) → Good (Stands (Parts v b) ts) (Links_at n v b ts)
  unfolding links
  sound_links zero v b ts = (refl, refl)
  sound_links (suc n) v b ts = sound_one v b n ts (run v b ts) ((h.steady v b).sound ts) (λ p q. sound_links n (make v p) (touched_before ts (length q)) q)

  goes_one : (v : V) (n : ℕ) (ts : List Token) (m : Read P) → Within (length ts) m → ((p : P) (q : List Token) → Goes (length q) (Next n v ts p q)) → Goes (length ts) (one_then ts m (Next n v ts))
  goes_one v n ts (Found p q l) w f = goes_noting l (length ts) (becoming (λ more. p ∷ more) (Next n v ts p q)) (goes_more (length q) (length ts) _ w.1 (goes_becoming (length q) (λ more. p ∷ more) (Next n v ts p q) (f p q)))
  goes_one v n ts (Stopped l) w f = omega arith

  goes_links : (n : ℕ) (v : V) (b : Bool) (ts : List Token) → Goes (length ts) (Links_at n v b ts)
  unfolding links
  goes_links zero v b ts = omega arith
  goes_links (suc n) v b ts = goes_one v n ts (run v b ts) ((h.steady v b).within ts) (λ p q. goes_links n (make v p) (touched_before ts (length q)) q)

  -- behind one that is found exactly
  goes_next : (v : V) (n k : ℕ) (ts q : List Token) (p : P) (m : Read P) → IsFound p q m → Goes k (Next n v ts p q) → Goes k (one_then ts m (Next n v ts))
  goes_next v n k ts q p m f g = subst (λ (u : Read P). Goes k (one_then ts u (Next n v ts))) (sym f.1) (goes_noting f.0 k (becoming (λ more. p ∷ more) (Next n v ts p q)) (goes_becoming k (λ more. p ∷ more) (Next n v ts p q) g))

  goes_last : (v : V) (n k : ℕ) (ts : List Token) (m : Read P) → Goes k m → ((p : P) (q : List Token) → Goes (length q) (Next n v ts p q)) → Goes k (one_then ts m (Next n v ts))
  goes_last v n k ts (Found p q l) g f = goes_noting l k (becoming (λ more. p ∷ more) (Next n v ts p q)) (goes_more (length q) k _ g (goes_becoming (length q) (λ more. p ∷ more) (Next n v ts p q) (f p q)))
  goes_last v n k ts (Stopped l) g f = absurd g

  longest_links : (n : ℕ) (v : V) (b : Bool) (ts : List Token) (list : List P) (r : List Token) → length ts ≤ n → Stands (Parts v b) ts list r → Goes (length r) (Links_at n v b ts)
  unfolding links
  longest_links n v b ts [] r e s = subst (λ (l : List Token). Goes (length l) (Links_at n v b ts)) s.0 (goes_links n v b ts)
  longest_links zero v b ts (p ∷ list) r e s = let w = cut_link v b ts p list r s in let lt = shorter v b ts p w.0 w.1 in absurd (omega (arith, lt, e))
  longest_links (suc n) v b ts (p ∷ []) r e s =
      let w = cut_link v b ts p [] r s in
      goes_last v n (length r) ts (run v b ts) (subst (λ (l : List Token). Goes (length l) (run v b ts)) w.2.0 ((h.steady v b).longest ts p w.0 w.1)) (λ q m. goes_links n (make v q) (touched_before ts (length m)) m)
  longest_links (suc n) v b ts (p ∷ q ∷ list) r e s =
      let w = cut_link v b ts p (q ∷ list) r s in
      let lt = shorter v b ts p w.0 w.1 in
      let u = cut_link (make v p) (touched_before ts (length w.0)) w.0 q list r w.2 in
      goes_next v n (length r) ts w.0 p (run v b ts) (h.next v b ts p w.0 q u.0 w.1 u.1) (longest_links n (make v p) (touched_before ts (length w.0)) w.0 (q ∷ list) r (omega (arith, lt, e)) w.2)

  none_one : (v : V) (n : ℕ) (ts : List Token) (m : Read P) → Refuses false ts m → IsFound [] ts (one_then ts m (Next n v ts))
  none_one v n ts (Found p q l) k = absurd (false≢true k.0)
  none_one v n ts (Stopped l) k = (l, refl)

  found_none : (n : ℕ) (v : V) (b : Bool) (ts : List Token) → starts ts ≡ false → IsFound [] ts (Links_at n v b ts)
  unfolding links
  found_none zero v b ts g = (length ts, refl)
  found_none (suc n) v b ts g = none_one v n ts (run v b ts) ((h.steady v b).refuses ts g)

  found_next : (v : V) (n : ℕ) (ts q r : List Token) (p : P) (list : List P) (m : Read P) → IsFound p q m → IsFound list r (Next n v ts p q) → IsFound (p ∷ list) r (one_then ts m (Next n v ts))
  found_next v n ts q r p list m f g =
      let w = found_noting f.0 (p ∷ list) r (becoming (λ more. p ∷ more) (Next n v ts p q)) (found_becoming (λ more. p ∷ more) list r (Next n v ts p q) g) in
      (w.0, ap (λ (u : Read P). one_then ts u (Next n v ts)) f.1 ∙ w.1)

  exact_links : (n : ℕ) (v : V) (b : Bool) (ts : List Token) (list : List P) (r : List Token) → length ts ≤ n → Stands (Parts v b) ts list r → ends r ≡ false → IsFound list r (Links_at n v b ts)
  unfolding links
  exact_links n v b ts [] r e s g = subst (λ (l : List Token). IsFound [] l (Links_at n v b ts)) s.0 (found_none n v b ts (subst (λ (l : List Token). starts l ≡ false) (sym s.0) (h.over r g)))
  exact_links zero v b ts (p ∷ list) r e s g = let w = cut_link v b ts p list r s in let lt = shorter v b ts p w.0 w.1 in absurd (omega (arith, lt, e))
  exact_links (suc n) v b ts (p ∷ []) r e s g =
      let w = cut_link v b ts p [] r s in
      found_next v n ts w.0 r p [] (run v b ts) ((h.steady v b).exact ts p w.0 w.1 (subst (λ (l : List Token). ends l ≡ false) (sym w.2.0) g))
      (subst (λ (l : List Token). IsFound [] l (Next n v ts p w.0)) w.2.0 (found_none n (make v p) (touched_before ts (length w.0)) w.0 (subst (λ (l : List Token). starts l ≡ false) (sym w.2.0) (h.over r g))))
  exact_links (suc n) v b ts (p ∷ q ∷ list) r e s g =
      let w = cut_link v b ts p (q ∷ list) r s in
      let lt = shorter v b ts p w.0 w.1 in
      let u = cut_link (make v p) (touched_before ts (length w.0)) w.0 q list r w.2 in
      found_next v n ts w.0 r p (q ∷ list) (run v b ts) (h.next v b ts p w.0 q u.0 w.1 u.1) (exact_links n (make v p) (touched_before ts (length w.0)) w.0 (q ∷ list) r (omega (arith, lt, e)) w.2 g)

  opens_links : (v : V) (b : Bool) (ts : List Token) (list : List P) (r : List Token) → Stands (Parts v b) ts list r → Opens (Parts v b) ts r
  opens_links v b ts [] r s = inr (s.0, refl)
  opens_links v b ts (p ∷ list) r s =
      let w = cut_link v b ts p list r s in
      let o = (h.steady v b).opens ts p w.0 w.1 in
      inl (o.0, omega (arith, o.1, takes_length false ((Parts (make v p) (touched_before ts (length w.0))).tell list []) w.0 r w.2.0))

  refuses_links : (ts : List Token) (m : Read (List P)) → IsFound [] ts m → Refuses true ts m
  refuses_links ts m f = subst (λ (v : Read (List P)). Refuses true ts v) (sym f.1) (refl, refl)

  moves_one : (v : V) (i j : ℕ) (x y p : List Token) (m n : Read P) → Within (length (p ++ x)) m → Good (λ a r. length r < length (p ++ x)) m → Moves x y m n → ((a : P) (q : List Token) → length q < length p → Moves x y (Next i v (p ++ x) a (q ++ x)) (Next j v (p ++ y) a (q ++ y))) → Moves x y (one_then (p ++ x) m (Next i v (p ++ x))) (one_then (p ++ y) n (Next j v (p ++ y)))
  moves_one v i j x y p (Found a r l) (Found b s k) wi gd mv f lt =
      let u : length x < min l (reach (Next i v (p ++ x) a r)) = subst (λ (z : ℕ). length x < z) (reach_noting l (becoming (λ more. a ∷ more) (Next i v (p ++ x) a r)) ∙ ap (λ z. min l z) (reach_becoming (λ more. a ∷ more) (Next i v (p ++ x) a r))) lt in
      let w = mv (omega arith) in
      let less : length w.1 < length p = omega (arith, ap length w.2, length-append w.1 x, length-append p x, gd) in
      moved_two a b r s w.1 l k w.0 w.2 w.3 w.4 (f a w.1 less) (omega arith)
    where
      moved_two : (a b : P) (r s q : List Token) (l k : ℕ) → a ≡ b → r ≡ q ++ x → s ≡ q ++ y → l + length y ≡ k + length x → Moves x y (Next i v (p ++ x) a (q ++ x)) (Next j v (p ++ y) a (q ++ y)) → length x < reach (Next i v (p ++ x) a r) → Moved x y (noting l (becoming (λ more. a ∷ more) (Next i v (p ++ x) a r))) (noting k (becoming (λ more. b ∷ more) (Next j v (p ++ y) b s)))
      moved_two a b r s q l k ab rq sq e mv lt =
          let lt' = subst (λ (z : List Token). length x < reach (Next i v (p ++ x) a z)) rq lt in
          let lt'' = subst (λ (z : ℕ). length x < z) (sym (reach_becoming (λ more. a ∷ more) (Next i v (p ++ x) a (q ++ x)))) lt' in
          let m = moved_noting x y l k (becoming (λ more. a ∷ more) (Next i v (p ++ x) a (q ++ x))) (becoming (λ more. a ∷ more) (Next j v (p ++ y) a (q ++ y))) e (moves_becoming x y (λ more. a ∷ more) (Next i v (p ++ x) a (q ++ x)) (Next j v (p ++ y) a (q ++ y)) mv lt'') in
          let m1 = subst (λ (z : List Token). Moved x y (noting l (becoming (λ more. a ∷ more) (Next i v (p ++ x) a z))) (noting k (becoming (λ more. a ∷ more) (Next j v (p ++ y) a (q ++ y))))) (sym rq) m in
          let m2 = subst (λ (z : List Token). Moved x y (noting l (becoming (λ more. a ∷ more) (Next i v (p ++ x) a r))) (noting k (becoming (λ more. a ∷ more) (Next j v (p ++ y) a z)))) (sym sq) m1 in
          subst (λ (c : P). Moved x y (noting l (becoming (λ more. a ∷ more) (Next i v (p ++ x) a r))) (noting k (becoming (λ more. c ∷ more) (Next j v (p ++ y) c s)))) ab m2
  moves_one v i j x y p (Stopped l) (Stopped k) wi gd mv f lt = (refl, p, refl, refl, mv lt)
  moves_one v i j x y p (Found a r l) (Stopped k) wi gd mv f lt =
      let u : length x < min l (reach (Next i v (p ++ x) a r)) = subst (λ (z : ℕ). length x < z) (reach_noting l (becoming (λ more. a ∷ more) (Next i v (p ++ x) a r)) ∙ ap (λ z. min l z) (reach_becoming (λ more. a ∷ more) (Next i v (p ++ x) a r))) lt in absurd (mv (omega arith))
  moves_one v i j x y p (Stopped l) (Found b s k) wi gd mv f lt = absurd (mv lt)

  less : (v : V) (b : Bool) (ts : List Token) (m : Read P) → Good (Stands (Part v b) ts) m → Good (λ a r. length r < length ts) m
  less v b ts (Found p r l) g = shorter v b ts p r g
  less v b ts (Stopped l) g = tt

  local_links : (n k : ℕ) (v : V) (b : Bool) (p x y : List Token) → length (p ++ x) ≤ n → length (p ++ y) ≤ k → Moves x y (Links_at n v b (p ++ x)) (Links_at k v b (p ++ y))
  unfolding links
  local_links zero k v b [] x y e f = moves_none x y (Links_at zero v b x) (Links_at k v b y) (within_links zero v b x)
  local_links zero k v b (t ∷ p) x y e f = absurd (omega arith)
  local_links (suc n) zero v b [] x y e f = moves_none x y (Links_at (suc n) v b x) (Links_at zero v b y) (within_links (suc n) v b x)
  local_links (suc n) zero v b (t ∷ p) x y e f = absurd (omega arith)
  local_links (suc n) (suc k) v b p x y e f =
      moves_one v n k x y p (run v b (p ++ x)) (run v b (p ++ y)) ((h.steady v b).within (p ++ x)) (less v b (p ++ x) (run v b (p ++ x)) ((h.steady v b).sound (p ++ x))) ((h.steady v b).local p x y)
      (λ a q lt. subst (λ c. Moves x y (Next n v (p ++ x) a (q ++ x)) (links k make run (make v a) c (q ++ y))) (same_mark p q x y lt)
      (local_links n k (make v a) (touched_before (p ++ x) (length (q ++ x))) q x y (omega (arith, lt, e, length-append q x, length-append p x)) (omega (arith, lt, f, length-append q y, length-append p y))))

  begins_first : (v : V) (b : Bool) (ts : List Token) (l : ℕ) → Begins P (Part v b) ts l ⊎ (l ≡ length ts) → Begins (List P) (Parts v b) ts l
  begins_first v b ts l (inl g) = begins_as P (List P) (Part v b) (Parts v b) (λ a. a ∷ []) ts l (λ us a z s. join v b us z z a [] s (refl, refl)) g
  begins_first v b ts l (inr e) = subst (λ k. Begins (List P) (Parts v b) ts k) (sym e) (begins_full (List P) (Parts v b) ts [] ts (refl, refl))

  begins_one : (v : V) (b : Bool) (n : ℕ) (ts : List Token) (m : Read P) → Begins P (Part v b) ts (reach m) ⊎ (reach m ≡ length ts) → Good (Stands (Part v b) ts) m → ((p : P) (q : List Token) → length q < length ts → Begins (List P) (Parts (make v p) (touched_before ts (length q))) q (reach (Next n v ts p q))) → Begins (List P) (Parts v b) ts (reach (one_then ts m (Next n v ts)))
  begins_one v b n ts (Found p q l) g s f =
      let t = takes_front false (soft p []) ts q s.0 in
      let same : reach (noting l (becoming (λ more. p ∷ more) (Next n v ts p q))) ≡ min l (reach (Next n v ts p q)) =
      reach_noting l (becoming (λ more. p ∷ more) (Next n v ts p q)) ∙ ap (λ k. min l k) (reach_becoming (λ more. p ∷ more) (Next n v ts p q)) in
      let lt = shorter v b ts p q s in
      let some : 0 < length t.0 = omega (arith, lt, ap length t.1, length-append t.0 q) in
      subst (λ k. Begins (List P) (Parts v b) ts k) (sym same)
      (begins_pick (List P) (Parts v b) ts l (reach (Next n v ts p q)) (begins_first v b ts l g)
      (begins_behind (List P) (List P) (Parts (make v p) (touched_before ts (length q))) (Parts v b) (λ list. p ∷ list) t.0 q ts (reach (Next n v ts p q)) t.1
      (λ us list z w. join v b (t.0 ++ us) us z p list (t.2 us, s.1)
      (subst (λ c. Stands (Parts (make v p) c) us list z) (ap (λ (l : List Token). touched_before l (length q)) t.1 ∙ same_mark t.0 [] q us some) w)) (f p q lt)))
  begins_one v b n ts (Stopped l) g s f = begins_first v b ts l g

  begins_links : (n : ℕ) (v : V) (b : Bool) (ts : List Token) → length ts ≤ n → Begins (List P) (Parts v b) ts (reach (Links_at n v b ts))
  unfolding links
  begins_links zero v b ts e = begins_full (List P) (Parts v b) ts [] ts (refl, refl)
  begins_links (suc n) v b ts e = begins_one v b n ts (run v b ts) ((h.steady v b).begins ts) ((h.steady v b).sound ts) (λ p q lt. begins_links n (make v p) (touched_before ts (length q)) q (omega (arith, lt, e)))

  pub links_laws : (v : V) (b : Bool) → Lawful (List P) (Parts v b)
  links_laws v b = record {
    appends = appends_all v b;
    plain = plain_all v b;
    within = λ ts. within_links (length ts) v b ts;
    sound = λ ts. sound_links (length ts) v b ts;
    longest = λ ts list r s. longest_links (length ts) v b ts list r (omega arith) s;
    exact = λ ts list r s g. exact_links (length ts) v b ts list r (omega arith) s g;
    opens = opens_links v b;
    refuses = λ ts g. refuses_links ts ((Parts v b).run ts) (found_none (length ts) v b ts g);
    total = λ e ts. goes_links (length ts) v b ts;
    local = λ p x y. local_links (length (p ++ x)) (length (p ++ y)) v b p x y (omega arith) (omega arith);
    begins = λ ts. begins_links (length ts) v b ts (omega arith);
    least = record { value = []; tokens = []; spelled = λ z. (refl, refl) };
  }
