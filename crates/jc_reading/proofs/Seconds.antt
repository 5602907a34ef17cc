-- The one form or the other by what stands behind a first token that both may begin with.
use Rattle.std.proofs.Common.{◌≡◌, ℕ, ◌+◌, ◌<◌, ◌≤◌, min, Bool, true, false, cond, List, [], ◌∷◌, ◌++◌, length, length-append, refl, sym, ap, ◌∙◌, subst, ⊎_elim, inl, arith}
use Rattle.std.proofs.lemmas.Bool.{false≢true, cond_both, cases_Bool, cases_lt, eqb-true}
use Rattle.std.specs.Prelude.{◌&&◌, ◌==◌}
use Rattle.jc_lexer.specs.declared.token.Token.{Token}
use Rattle.jc_grammar.specs.Told.{Told}
use Rattle.jc_reading.specs.Kinds.{kind_code, is_in, front_code, one_of}
use Rattle.jc_reading.specs.Reading.{Read, Found, Stopped, noting, becoming, Either, This, That}
use Rattle.jc_reading.proofs.Steps.{Good, Goes, IsFound, Refuses, reach, Moved, Moves, Plain, good_becoming, good_noting, within_becoming, within_noting, goes_becoming, goes_noting, found_becoming, found_noting, reach_becoming, reach_noting, moves_becoming, moved_noting, moves_none}
use Rattle.jc_reading.proofs.Forms.{Form, Lawful, Stands, Begins, Opens, begins_as, begins_pick}
use Rattle.jc_reading.proofs.Choices.{tell_either, fits_either}
use Rattle.jc_reading.specs.Further.{by_second, past, second_is}
use Rattle.jc_reading.proofs.Coded.{Coded, formed, in_first, in_second}
use Rattle.jc_reading.specs.Reach.{Within}

-- where a value may begin with a token, that token is read, whatever follows
pub takes_first : (A : Type 0) (form : Form A) → Lawful A form → form.empties ≡ false → (t : Token) (z : List Token) (a : A) (r : List Token) → Stands form (t ∷ z) a r → (ts : List Token) → reach (form.run (t ∷ ts)) ≤ length ts
takes_first A form la solid t z a r s ts =
    ⊎_elim (λ (far : length ts < reach (form.run (t ∷ ts))). absurd (too_far (form.run (t ∷ ts)) (form.run (t ∷ z)) far (la.within (t ∷ ts)) (la.within (t ∷ z)) (la.sound (t ∷ z)) (la.longest (t ∷ z) a r s) (la.local (t ∷ []) ts z far)))
    (λ (near : reach (form.run (t ∷ ts)) ≤ length ts). near) (cases_lt (length ts) (reach (form.run (t ∷ ts))))
  where
    too_far : (m n : Read A) → length ts < reach m → Within (length (t ∷ ts)) m → Within (length (t ∷ z)) n → Good (Stands form (t ∷ z)) n → Goes (length r) n → Moved ts z m n → ⊥
    too_far (Found b q l) (Found c p k) far w v g i h = omega (arith, far, w.0, w.1, v.0, v.1, h.4, shorter c p g)
      where
        shorter : (c : A) (p : List Token) → Stands form (t ∷ z) c p → length p < length (t ∷ z)
        shorter c p g = ⊎_elim (λ o. o.1) (λ o. absurd (false≢true (sym solid ∙ o.1))) (la.opens (t ∷ z) c p g)
    too_far (Found b q l) (Stopped k) far w v g i h = absurd h
    too_far (Stopped l) (Found c p k) far w v g i h = absurd h
    too_far (Stopped l) (Stopped k) far w v g i h = absurd i

-- the first form is read where a token of `codes` stands behind one of the kind `code`
abbrev pub seconds : {A B : Type 0} → ℕ → List ℕ → Coded A → Coded B → Coded (Either A B)
seconds code codes ca cb = record { tell = tell_either ca.tell cb.tell; fits = fits_either ca.fits cb.fits; run = by_second code codes ca.run cb.run; starts = ca.starts ++ cb.starts; goes = ca.goes ++ cb.goes; empties = false }

pub record Parts (A B : Type 0) (code : ℕ) (codes : List ℕ) (ca : Coded A) (cb : Coded B) : Type 0 where
  pub solid : ca.empties ≡ false
  pub solid' : cb.empties ≡ false
  pub this : (ts : List Token) (a : A) (r : List Token) → Stands (formed ca) ts a r → second_is code codes ts ≡ true
  pub that : (ts : List Token) (b : B) (r : List Token) → Stands (formed cb) ts b r → second_is code codes ts ≡ false
  -- the first form reads the first token
  pub passes : (t : Token) (ts : List Token) → kind_code t.kind ≡ code → reach (ca.run (t ∷ ts)) ≤ length ts

module _ (A B : Type 0) (code : ℕ) (codes : List ℕ) (ca : Coded A) (cb : Coded B) (la : Lawful A (formed ca)) (lb : Lawful B (formed cb)) (d : Parts A B code codes ca cb) where
  abbrev Choice : Coded (Either A B)
  Choice = seconds code codes ca cb

  abbrev Tested : List Token → Bool
  Tested ts = second_is code codes ts

  abbrev Second : List Token → Read (Either A B)
  Second ts = becoming That (cb.run ts)

  by_past : (P : Read (Either A B) → Type 0) (ts : List Token) (m : Read (Either A B)) → P m → ((l : ℕ) → P (noting l m)) → P (past code ts m)
  by_past P [] m a b = a
  by_past P (t ∷ ts) m a b = cond_both (kind_code t.kind == code) (noting (length ts) m) m P (λ e. b (length ts)) (λ e. a)

  first_begins : (t : Token) (ts : List Token) → kind_code t.kind ≡ code → Begins A (formed ca) (t ∷ ts) (length ts)
  first_begins t ts e = behind_one (la.begins (t ∷ [])) (d.passes t [] e)
    where
      behind_one : Begins A (formed ca) (t ∷ []) (reach (ca.run (t ∷ []))) → reach (ca.run (t ∷ [])) ≤ 0 → Begins A (formed ca) (t ∷ ts) (length ts)
      behind_one b le =
          let e : (t ∷ []) ≡ b.front = whole b.front b.back b.whole (omega (arith, b.left, le)) in
          record {
            front = t ∷ [];
            back = ts;
            whole = refl;
            left = refl;
            value = b.value;
            more = b.more;
            spelled = λ z. subst (λ (l : List Token). Stands (formed ca) (l ++ (b.more ++ z)) b.value z) (sym e) (b.spelled z);
          }
        where
          whole : (front back : List Token) → (t ∷ []) ≡ front ++ back → length back ≡ 0 → (t ∷ []) ≡ front
          whole front [] e l = e ∙ nil_right front
            where
              nil_right : (front : List Token) → front ++ [] ≡ front
              nil_right [] = refl
              nil_right (f ∷ front) = ap (λ (l : List Token). f ∷ l) (nil_right front)
          whole front (u ∷ back) e l = absurd (omega (arith, l))

  by_test : (P : Read (Either A B) → Type 0) (ts : List Token) → (Tested ts ≡ true → P (becoming This (ca.run ts))) → (Tested ts ≡ false → P (past code ts (Second ts))) → P (Choice.run ts)
  by_test P ts f g = cond_both (Tested ts) (becoming This (ca.run ts)) (past code ts (Second ts)) P f g

  longest_seconds : (ts : List Token) (o : Either A B) (r : List Token) → Stands (formed Choice) ts o r → Goes (length r) (Choice.run ts)
  longest_seconds ts (This a) r s = by_test (Goes (length r)) ts (λ e. goes_becoming (length r) This (ca.run ts) (la.longest ts a r s)) (λ e. absurd (false≢true (sym e ∙ d.this ts a r s)))
  longest_seconds ts (That b) r s = by_test (Goes (length r)) ts (λ e. absurd (false≢true (sym (d.that ts b r s) ∙ e))) (λ e. let g = goes_becoming (length r) That (cb.run ts) (lb.longest ts b r s) in by_past (Goes (length r)) ts (Second ts) g (λ l. goes_noting l (length r) (Second ts) g))

  stops_first : (r : List Token) → is_in (ca.goes ++ cb.goes) (front_code r) ≡ false → one_of ca.goes r ≡ false
  stops_first r g = ⊎_elim (λ t. absurd (false≢true (sym g ∙ in_first ca.goes cb.goes (front_code r) t))) (λ f. f) (cases_Bool (one_of ca.goes r))

  stops_second : (r : List Token) → is_in (ca.goes ++ cb.goes) (front_code r) ≡ false → one_of cb.goes r ≡ false
  stops_second r g = ⊎_elim (λ t. absurd (false≢true (sym g ∙ in_second ca.goes cb.goes (front_code r) t))) (λ f. f) (cases_Bool (one_of cb.goes r))

  starts_first : (r : List Token) → is_in (ca.starts ++ cb.starts) (front_code r) ≡ false → one_of ca.starts r ≡ false
  starts_first r g = ⊎_elim (λ t. absurd (false≢true (sym g ∙ in_first ca.starts cb.starts (front_code r) t))) (λ f. f) (cases_Bool (one_of ca.starts r))

  starts_second : (r : List Token) → is_in (ca.starts ++ cb.starts) (front_code r) ≡ false → one_of cb.starts r ≡ false
  starts_second r g = ⊎_elim (λ t. absurd (false≢true (sym g ∙ in_second ca.starts cb.starts (front_code r) t))) (λ f. f) (cases_Bool (one_of cb.starts r))

  exact_seconds : (ts : List Token) (o : Either A B) (r : List Token) → Stands (formed Choice) ts o r → one_of Choice.goes r ≡ false → IsFound o r (Choice.run ts)
  exact_seconds ts (This a) r s g = by_test (IsFound (This a) r) ts (λ e. found_becoming This a r (ca.run ts) (la.exact ts a r s (stops_first r g))) (λ e. absurd (false≢true (sym e ∙ d.this ts a r s)))
  exact_seconds ts (That b) r s g = by_test (IsFound (That b) r) ts (λ e. absurd (false≢true (sym (d.that ts b r s) ∙ e))) (λ e. let f = found_becoming That b r (cb.run ts) (lb.exact ts b r s (stops_second r g)) in by_past (IsFound (That b) r) ts (Second ts) f (λ l. found_noting l (That b) r (Second ts) f))

  opens_seconds : (ts : List Token) (o : Either A B) (r : List Token) → Stands (formed Choice) ts o r → Opens (formed Choice) ts r
  opens_seconds ts (This a) r s = ⊎_elim (λ o. inl (in_first ca.starts cb.starts (front_code ts) o.0, o.1)) (λ o. absurd (false≢true (sym d.solid ∙ o.1))) (la.opens ts a r s)
  opens_seconds ts (That b) r s = ⊎_elim (λ o. inl (in_second ca.starts cb.starts (front_code ts) o.0, o.1)) (λ o. absurd (false≢true (sym d.solid' ∙ o.1))) (lb.opens ts b r s)

  refuses_as : (C : Type 0) (f : C → Either A B) (e : Bool) (ts : List Token) (m : Read C) → e ≡ false → Refuses e ts m → Refuses false ts (becoming f m)
  refuses_as C f e ts (Found a r l) h k = absurd (false≢true (sym h ∙ k.0))
  refuses_as C f e ts (Stopped l) h k = refl

  refuses_noting : (l : ℕ) (ts : List Token) (m : Read (Either A B)) → Refuses false ts m → Refuses false ts (noting l m)
  refuses_noting l ts (Found o r k) h = h
  refuses_noting l ts (Stopped k) h = h

  refuses_seconds : (ts : List Token) → one_of Choice.starts ts ≡ false → Refuses false ts (Choice.run ts)
  refuses_seconds ts h =
      by_test (Refuses false ts) ts (λ e. refuses_as A This ca.empties ts (ca.run ts) d.solid (la.refuses ts (starts_first ts h))) (λ e. let f = refuses_as B That cb.empties ts (cb.run ts) d.solid' (lb.refuses ts (starts_second ts h)) in by_past (Refuses false ts) ts (Second ts) f (λ l. refuses_noting l ts (Second ts) f))

  within_seconds : (ts : List Token) → Within (length ts) (Choice.run ts)
  within_seconds ts = by_test (Within (length ts)) ts (λ e. within_becoming (length ts) This (ca.run ts) (la.within ts)) (λ e. let w = within_becoming (length ts) That (cb.run ts) (lb.within ts) in by_past (Within (length ts)) ts (Second ts) w (λ l. within_noting l (length ts) (Second ts) w))

  moves_noting : (l k : ℕ) (x y : List Token) (m n : Read (Either A B)) → l + length y ≡ k + length x → Moves x y m n → Moves x y (noting l m) (noting k n)
  moves_noting l k x y m n e h lt = let u : length x < min l (reach m) = subst (λ (j : ℕ). length x < j) (reach_noting l m) lt in moved_noting x y l k m n e (h (omega arith))

  moves_past : (c : Bool) (l k : ℕ) (x y : List Token) (m n : Read (Either A B)) → l + length y ≡ k + length x → Moves x y m n → Moves x y (cond c (noting l m) m) (cond c (noting k n) n)
  moves_past true l k x y m n e h = moves_noting l k x y m n e h
  moves_past false l k x y m n e h = h

  moves_test : (b c : Bool) (x y : List Token) (m n i j : Read (Either A B)) → b ≡ c → Moves x y m n → Moves x y i j → Moves x y (cond b m i) (cond c n j)
  moves_test true true x y m n i j e h k = h
  moves_test false false x y m n i j e h k = k
  moves_test true false x y m n i j e h k = absurd (false≢true (sym e))
  moves_test false true x y m n i j e h k = absurd (false≢true e)

  -- a first token that is not of the kind decides by itself
  other_first : (t : Token) (x y : List Token) → (kind_code t.kind == code) ≡ false → second_is code codes (t ∷ x) ≡ second_is code codes (t ∷ y)
  other_first t x y e = ap (λ b. b && one_of codes x) e ∙ sym (ap (λ b. b && one_of codes y) e)

  near : (t : Token) (x : List Token) → (kind_code t.kind == code) ≡ true → reach (Choice.run (t ∷ x)) ≤ length x
  near t x e =
      by_test (λ m. reach m ≤ length x) (t ∷ x)
      (λ q. subst (λ k. k ≤ length x) (sym (reach_becoming This (ca.run (t ∷ x)))) (d.passes t x (eqb-true (kind_code t.kind) code e)))
      (λ q. subst (λ (b : Bool). reach (cond b (noting (length x) (Second (t ∷ x))) (Second (t ∷ x))) ≤ length x) (sym e) (noted (Second (t ∷ x))))
    where
      noted : (m : Read (Either A B)) → reach (noting (length x) m) ≤ length x
      noted m = let f : reach (noting (length x) m) ≡ min (length x) (reach m) = reach_noting (length x) m in omega (arith, f)

  past_first : (t : Token) (x y : List Token) → (kind_code t.kind == code) ≡ false → Moves x y (Second (t ∷ x)) (Second (t ∷ y)) → Moves x y (past code (t ∷ x) (Second (t ∷ x))) (past code (t ∷ y) (Second (t ∷ y)))
  past_first t x y e h =
      subst (λ (b : Bool). Moves x y (cond b (noting (length x) (Second (t ∷ x))) (Second (t ∷ x))) (cond b (noting (length y) (Second (t ∷ y))) (Second (t ∷ y)))) (sym e) h

  local_seconds : (p x y : List Token) → Moves x y (Choice.run (p ++ x)) (Choice.run (p ++ y))
  local_seconds [] x y = moves_none x y (Choice.run x) (Choice.run y) (within_seconds x)
  local_seconds (t ∷ []) x y =
      ⊎_elim
      (λ q. λ lt. absurd (too_near (reach (Choice.run (t ∷ x))) (near t x q) lt))
      (λ q. moves_test (Tested (t ∷ x)) (Tested (t ∷ y)) x y (becoming This (ca.run (t ∷ x))) (becoming This (ca.run (t ∷ y))) (past code (t ∷ x) (Second (t ∷ x))) (past code (t ∷ y) (Second (t ∷ y))) (other_first t x y q)
      (moves_becoming x y This (ca.run (t ∷ x)) (ca.run (t ∷ y)) (la.local (t ∷ []) x y)) (past_first t x y q (moves_becoming x y That (cb.run (t ∷ x)) (cb.run (t ∷ y)) (lb.local (t ∷ []) x y))))
      (cases_Bool (kind_code t.kind == code))
    where
      too_near : (k : ℕ) → k ≤ length x → length x < k → ⊥
      too_near k a b = omega (arith, a, b)
  local_seconds (t ∷ u ∷ p) x y =
      moves_test (Tested (t ∷ u ∷ (p ++ x))) (Tested (t ∷ u ∷ (p ++ y))) x y (becoming This (ca.run (t ∷ u ∷ (p ++ x)))) (becoming This (ca.run (t ∷ u ∷ (p ++ y)))) (past code (t ∷ u ∷ (p ++ x)) (Second (t ∷ u ∷ (p ++ x)))) (past code (t ∷ u ∷ (p ++ y)) (Second (t ∷ u ∷ (p ++ y)))) refl
      (moves_becoming x y This (ca.run (t ∷ u ∷ (p ++ x))) (ca.run (t ∷ u ∷ (p ++ y))) (la.local (t ∷ u ∷ p) x y))
      (moves_past (kind_code t.kind == code) (length (u ∷ (p ++ x))) (length (u ∷ (p ++ y))) x y (Second (t ∷ u ∷ (p ++ x))) (Second (t ∷ u ∷ (p ++ y))) (omega (arith, length-append p x, length-append p y))
      (moves_becoming x y That (cb.run (t ∷ u ∷ (p ++ x))) (cb.run (t ∷ u ∷ (p ++ y))) (lb.local (t ∷ u ∷ p) x y)))

  second_begins : (ts : List Token) → Begins (Either A B) (formed Choice) ts (reach (Second ts))
  second_begins ts = subst (λ k. Begins (Either A B) (formed Choice) ts k) (sym (reach_becoming That (cb.run ts))) (begins_as B (Either A B) (formed cb) (formed Choice) That ts (reach (cb.run ts)) (λ us a z s. s) (lb.begins ts))

  past_begins : (ts : List Token) → Begins (Either A B) (formed Choice) ts (reach (past code ts (Second ts)))
  past_begins [] = second_begins []
  past_begins (t ∷ ts) =
      cond_both (kind_code t.kind == code) (noting (length ts) (Second (t ∷ ts))) (Second (t ∷ ts)) (λ m. Begins (Either A B) (formed Choice) (t ∷ ts) (reach m))
      (λ e. subst (λ k. Begins (Either A B) (formed Choice) (t ∷ ts) k) (sym (reach_noting (length ts) (Second (t ∷ ts))))
      (begins_pick (Either A B) (formed Choice) (t ∷ ts) (length ts) (reach (Second (t ∷ ts)))
      (begins_as A (Either A B) (formed ca) (formed Choice) This (t ∷ ts) (length ts) (λ us a z s. s) (first_begins t ts (eqb-true (kind_code t.kind) code e))) (second_begins (t ∷ ts))))
      (λ e. second_begins (t ∷ ts))

  pub seconds_laws : Lawful (Either A B) (formed Choice)
  seconds_laws = record {
    appends = appends;
    plain = plain;
    within = within_seconds;
    sound = λ ts. by_test (Good (Stands (formed Choice) ts)) ts
        (λ e. good_becoming (Stands (formed ca) ts) (Stands (formed Choice) ts) This (ca.run ts) (la.sound ts) (λ a r s. s))
        (λ e. let g = good_becoming (Stands (formed cb) ts) (Stands (formed Choice) ts) That (cb.run ts) (lb.sound ts) (λ b r s. s) in by_past (Good (Stands (formed Choice) ts)) ts (Second ts) g (λ l. good_noting (Stands (formed Choice) ts) l (Second ts) g));
    longest = longest_seconds;
    exact = exact_seconds;
    opens = opens_seconds;
    refuses = refuses_seconds;
    total = λ e ts. absurd (false≢true e);
    local = local_seconds;
    begins = λ ts. by_test (λ m. Begins (Either A B) (formed Choice) ts (reach m)) ts
        (λ e. subst (λ k. Begins (Either A B) (formed Choice) ts k) (sym (reach_becoming This (ca.run ts))) (begins_as A (Either A B) (formed ca) (formed Choice) This ts (reach (ca.run ts)) (λ us a z s. s) (la.begins ts)))
        (λ e. past_begins ts);
    least = record { value = This la.least.value; tokens = la.least.tokens; spelled = la.least.spelled };
  }
    where
      appends : (o : Either A B) (r : List Told) → Choice.fits o ≡ true → Choice.tell o r ≡ Choice.tell o [] ++ r
      appends (This a) r g = la.appends a r g
      appends (That b) r g = lb.appends b r g

      plain : (o : Either A B) → Choice.fits o ≡ true → Plain (Choice.tell o [])
      plain (This a) g = la.plain a g
      plain (That b) g = lb.plain b g
