-- Forms that have no value where there is no room for one: they stop at the first token.
use Rattle.std.proofs.Common.{◌≡◌, ℕ, zero, suc, Bool, true, false, cond, List, [], ◌∷◌, ◌++◌, length, Option, Some, None, refl, sym, ap, ◌∙◌, subst, ⊎_elim, ◌⊎◌, inl, inr, arith}
use Rattle.std.proofs.Math.Path.{fun_ext}
use Rattle.std.proofs.lemmas.Bool.{false≢true, false_from_ne_true, and_left, and_right, or_left, or_right, or_cases, cond_both, cases_Bool}
use Rattle.std.specs.Prelude.{◌||◌}
use Rattle.jc_lexer.specs.declared.token.Token.{Token}
use Rattle.jc_lexer.specs.declared.token.Sign.TheVariants as sign_of
use Rattle.jc_grammar.specs.Told.{Told}
use Rattle.jc_reading.specs.Kinds.{front_code, one_of, sign_code}
use Rattle.jc_reading.specs.Reading.{Read, Found, Stopped, Run, found, becoming, as_new, ◌>>=◌, perhaps, perhaps_from, one_more, times, any_number, Either, This, That, either, joined, first_and_more, each_behind, Takes}
use Rattle.jc_reading.proofs.Steps.{Good, Goes, IsFound, Refuses, reach, Moves, Plain, moves_none, moves_stop, moves_found}
use Rattle.jc_reading.proofs.Forms.{Lawful, Stands, Begins, begins_start, begins_full}
use Rattle.jc_reading.proofs.Options.{fits_some}
use Rattle.jc_reading.proofs.Lists.{fits_all}
use Rattle.jc_reading.proofs.Choices.{tell_either, fits_either}
use Rattle.jc_reading.proofs.Ledby.{fits_some_of}
use Rattle.jc_reading.proofs.Signs.{none_common, apart_sets, within_sets}
use Rattle.jc_reading.specs.Further.{with_room, either_one}
use Rattle.jc_reading.proofs.Coded.{Coded, formed, coded_laws, in_first, in_second, in_order, in_order_laws, optional, optional_laws, repeated, repeated_laws, listed, listed_laws, one_or, Apart, one_or_laws, made, Makes, made_laws}
use Rattle.jc_reading.specs.Reach.{Within}

-- it has no value
pub record Void (A : Type 0) (c : Coded A) : Type 0 where
  pub stops : (ts : List Token) → c.run ts ≡ Stopped (length ts)
  pub never : (a : A) → c.fits a ≡ false

abbrev pub Law : (A : Type 0) → Coded A → Type 0
Law A c = Lawful A (formed c) ⊎ Void A c

abbrev pub rerun : {A : Type 0} → Coded A → Run A → Coded A
rerun c run = record { tell = c.tell; fits = c.fits; run = run; starts = c.starts; goes = c.goes; empties = c.empties }

-- the same answers from another reader
pub rerun_laws : (A : Type 0) (c : Coded A) (run : Run A) → ((ts : List Token) → c.run ts ≡ run ts) → Lawful A (formed c) → Lawful A (formed (rerun c run))
rerun_laws A c run e la = subst (λ (m : Run A). Lawful A (formed (rerun c m))) (fun_ext e) la

-- a form that is read only where a test of the first token allows it
module _ (A : Type 0) (ca : Coded A) (la : Lawful A (formed ca)) (solid : ca.empties ≡ false) (test : List Token → Bool) (allows : (ts : List Token) → one_of ca.starts ts ≡ true → test ts ≡ true) (by_first : (t : Token) (x y : List Token) → test (t ∷ x) ≡ test (t ∷ y)) where
  abbrev pub gated : Coded A
  gated = rerun ca (λ ts. cond (test ts) (ca.run ts) (Stopped (length ts)))

  there : (ts : List Token) (a : A) (r : List Token) → Stands (formed ca) ts a r → test ts ≡ true
  there ts a r s = ⊎_elim (λ o. allows ts o.0) (λ o. absurd (false≢true (sym solid ∙ o.1))) (la.opens ts a r s)

  by_test : (P : Read A → Type 0) (ts : List Token) → (test ts ≡ true → P (ca.run ts)) → (test ts ≡ false → P (Stopped (length ts))) → P (gated.run ts)
  by_test P ts f g = cond_both (test ts) (ca.run ts) (Stopped (length ts)) P f g

  moves_test : (b c : Bool) (t : Token) (p x y : List Token) → b ≡ c → Moves x y (cond b (ca.run (t ∷ (p ++ x))) (Stopped (length (t ∷ (p ++ x))))) (cond c (ca.run (t ∷ (p ++ y))) (Stopped (length (t ∷ (p ++ y)))))
  moves_test true true t p x y e = la.local (t ∷ p) x y
  moves_test false false t p x y e = moves_stop A x y (t ∷ p)
  moves_test true false t p x y e = absurd (false≢true (sym e))
  moves_test false true t p x y e = absurd (false≢true e)

  within_gated : (ts : List Token) → Within (length ts) (gated.run ts)
  within_gated ts = by_test (Within (length ts)) ts (λ e. la.within ts) (λ e. omega arith)

  local_gated : (p x y : List Token) → Moves x y (gated.run (p ++ x)) (gated.run (p ++ y))
  local_gated [] x y = moves_none x y (gated.run x) (gated.run y) (within_gated x)
  local_gated (t ∷ p) x y = moves_test (test (t ∷ (p ++ x))) (test (t ∷ (p ++ y))) t p x y (by_first t (p ++ x) (p ++ y))

  pub gated_laws : Lawful A (formed gated)
  gated_laws = record {
    appends = la.appends;
    plain = la.plain;
    within = within_gated;
    sound = λ ts. by_test (Good (Stands (formed ca) ts)) ts (λ e. la.sound ts) (λ e. tt);
    longest = λ ts a r s. by_test (Goes (length r)) ts (λ e. la.longest ts a r s) (λ e. absurd (false≢true (sym e ∙ there ts a r s)));
    exact = λ ts a r s g. by_test (IsFound a r) ts (λ e. la.exact ts a r s g) (λ e. absurd (false≢true (sym e ∙ there ts a r s)));
    opens = la.opens;
    refuses = λ ts g. by_test (Refuses ca.empties ts) ts (λ e. la.refuses ts g) (λ e. solid);
    total = λ e ts. absurd (false≢true (sym solid ∙ e));
    local = local_gated;
    begins = λ ts. by_test (λ m. Begins A (formed gated) ts (reach m)) ts
        (λ e. let b = la.begins ts in record { front = b.front; back = b.back; whole = b.whole; left = b.left; value = b.value; more = b.more; spelled = b.spelled })
        (λ e. begins_start A (formed gated) ts (record { value = la.least.value; tokens = la.least.tokens; spelled = la.least.spelled }));
    least = record { value = la.least.value; tokens = la.least.tokens; spelled = la.least.spelled };
  }

-- only a value that takes no token
module _ (A : Type 0) (c : Coded A) (value : A) (fit : c.fits value ≡ true) (only : (a : A) → c.fits a ≡ true → value ≡ a) (quiet : (r : List Told) → c.tell value r ≡ r) (free : c.empties ≡ true) where
  abbrev idle : Coded A
  idle = rerun c (found value)

  stands_idle : (ts : List Token) → Stands (formed idle) ts value ts
  stands_idle ts = (subst (λ (l : List Told). Takes false l ts ts) (sym (quiet [])) refl, fit)

  is_idle : (ts : List Token) (a : A) (r : List Token) → Stands (formed idle) ts a r → (value ≡ a) × (ts ≡ r)
  is_idle ts a r s = let e = only a s.1 in (e, subst (λ (l : List Told). Takes false l ts r) (ap (λ (b : A). c.tell b []) (sym e) ∙ quiet []) s.0)

  goes_idle : (ts : List Token) → Goes (length ts) (idle.run ts)
  goes_idle ts = omega arith

  found_idle : (ts : List Token) (a : A) (r : List Token) → value ≡ a → ts ≡ r → IsFound a r (idle.run ts)
  found_idle ts a r e q = (length ts, ap (λ (b : A). Found b ts (length ts)) e ∙ ap (λ (l : List Token). Found a l (length ts)) q)

  pub idle_laws : Lawful A (formed idle)
  idle_laws = record {
    appends = λ a r g. let e = only a g in ap (λ (b : A). c.tell b r) (sym e) ∙ quiet r ∙ ap (λ (l : List Told). l ++ r) (sym (quiet []) ∙ ap (λ (b : A). c.tell b []) e);
    plain = λ a g. subst (λ (l : List Told). Plain l) (sym (quiet []) ∙ ap (λ (b : A). c.tell b []) (only a g)) tt;
    within = λ ts. (omega arith, omega arith);
    sound = stands_idle;
    longest = λ ts a r s. subst (λ (l : List Token). Goes (length l) (idle.run ts)) (is_idle ts a r s).1 (goes_idle ts);
    exact = λ ts a r s g. found_idle ts a r (is_idle ts a r s).0 (is_idle ts a r s).1;
    opens = λ ts a r s. inr ((is_idle ts a r s).1, free);
    refuses = λ ts g. (free, refl);
    total = λ e ts. goes_idle ts;
    local = λ p x y. moves_found x y value p;
    begins = λ ts. begins_full A (formed idle) ts value ts (stands_idle ts);
    least = record { value = value; tokens = []; spelled = stands_idle };
  }

pub optional_law : (A : Type 0) (ca : Coded A) → Law A ca → ca.empties ≡ false → Lawful (Option A) (formed (optional ca))
optional_law A ca l e =
    ⊎_elim (λ la. optional_laws A ca la e)
    (λ v. rerun_laws (Option A) (rerun (optional ca) (found None)) (perhaps ca.run) (λ ts. sym (ap (perhaps_from ts) (v.stops ts)))
    (idle_laws (Option A) (optional ca) None refl (only v) (λ r. refl) refl)) l
  where
    only : Void A ca → (o : Option A) → fits_some ca.fits o ≡ true → None ≡ o
    only v None g = refl
    only v (Some a) g = absurd (false≢true (sym (v.never a) ∙ g))

pub repeated_law : (A : Type 0) (ca : Coded A) → Law A ca → ca.empties ≡ false → none_common ca.starts ca.goes ≡ true → Lawful (List A) (formed (repeated ca))
unfolding times
repeated_law A ca l e n =
    ⊎_elim (λ la. repeated_laws A ca la e n)
    (λ v. rerun_laws (List A) (rerun (repeated ca) (found [])) (any_number ca.run) (λ ts. sym (none v (length ts) ts))
    (idle_laws (List A) (repeated ca) [] refl (only v) (λ r. refl) refl)) l
  where
    only : Void A ca → (list : List A) → fits_all ca.fits list ≡ true → [] ≡ list
    only v [] g = refl
    only v (a ∷ list) g = absurd (false≢true (sym (and_left (ca.fits a) (fits_all ca.fits list) (v.never a)) ∙ g))

    none : Void A ca → (n : ℕ) (ts : List Token) → times n ca.run ts ≡ found [] ts
    none v zero ts = refl
    none v (suc n) ts = ap (λ (m : Read A). one_more ts m (times n ca.run)) (v.stops ts)

pub listed_law : (A : Type 0) (ca : Coded A) → Law A ca → ca.empties ≡ false → none_common (sign_code sign_of.Comma ∷ []) ca.goes ≡ true → Law (List A) (listed ca)
listed_law A ca l e n =
    ⊎_elim (λ la. inl (listed_laws A ca la e n))
    (λ v. inr (record {
      stops = λ ts. ap (λ (m : Read A). becoming first_and_more (m >>= (λ a q. becoming (joined a) (each_behind sign_of.Comma ca.run q)))) (v.stops ts);
      never = no_list v;
    })) l
  where
    no_list : Void A ca → (list : List A) → fits_some_of ca.fits list ≡ false
    no_list v [] = refl
    no_list v (a ∷ list) = and_left (ca.fits a) (fits_all ca.fits list) (v.never a)

-- the first part has no value, or the second one
pub never_first : (A B : Type 0) (ca : Coded A) (cb : Coded B) → ((a : A) → ca.fits a ≡ false) → (p : A × B) → (in_order ca cb).fits p ≡ false
never_first A B ca cb n p = and_left (ca.fits p.0) (cb.fits p.1) (n p.0)

pub never_second : (A B : Type 0) (ca : Coded A) (cb : Coded B) → ((b : B) → cb.fits b ≡ false) → (p : A × B) → (in_order ca cb).fits p ≡ false
never_second A B ca cb n p = and_right (ca.fits p.0) (cb.fits p.1) (n p.1)

pub in_order_law : (A B : Type 0) (ca : Coded A) (cb : Coded B) → Law A ca → Lawful B (formed cb) → none_common cb.starts ca.goes ≡ true → Law (A × B) (in_order ca cb)
in_order_law A B ca cb l lb e =
    ⊎_elim (λ la. inl (in_order_laws A B ca cb la lb e))
    (λ v. inr (record {
      stops = λ ts. ap (λ (m : Read A). m >>= (λ a q. becoming (joined a) (cb.run q))) (v.stops ts);
      never = never_first A B ca cb v.never;
    })) l

pub made_law : (A B : Type 0) (ca : Coded A) (make : A → B) (tell : B → List Told → List Told) (fits : B → Bool) → Law A ca → Makes A B ca make tell fits → Law B (made A B ca make tell fits)
made_law A B ca make tell fits l h =
    ⊎_elim (λ la. inl (made_laws A B ca make tell fits la h))
    (λ v. inr (record {
      stops = λ ts. ap (becoming make) (v.stops ts);
      never = λ b. false_from_ne_true (fits b) (λ t. let w = h.back b t in false≢true (sym (v.never w.0) ∙ w.2));
    })) l

abbrev pub roomy : {A : Type 0} → ℕ → Coded A → Coded A
roomy h c = rerun c (with_room h c.run)

pub roomy_law : (A : Type 0) (c : ℕ → Coded A) → ((a : A) → (c 0).fits a ≡ false) → ((h : ℕ) → Lawful A (formed (c (suc h)))) → (h : ℕ) → Law A (roomy h (c h))
unfolding with_room
roomy_law A c n f zero = inr (record { stops = λ ts. refl; never = n })
roomy_law A c n f (suc h) = inl (rerun_laws A (c (suc h)) (with_room (suc h) (c (suc h)).run) (λ ts. refl) (f h))

-- the one or the other, of which one may have no value
module _ (A B : Type 0) (codes : List ℕ) (ca : Coded A) (cb : Coded B) (d : Apart A B codes ca cb) where
  abbrev Choice : Coded (Either A B)
  Choice = one_or codes ca cb

  abbrev This_one : Coded (Either A B)
  This_one = made A (Either A B) ca This (tell_either ca.tell cb.tell) (fits_either ca.fits cb.fits)

  abbrev That_one : Coded (Either A B)
  That_one = made B (Either A B) cb That (tell_either ca.tell cb.tell) (fits_either ca.fits cb.fits)

  this_makes : Void B cb → Makes A (Either A B) ca This (tell_either ca.tell cb.tell) (fits_either ca.fits cb.fits)
  this_makes v = record { told = λ a r g. refl; forth = λ a g. g; back = back }
    where
      back : (o : Either A B) → fits_either ca.fits cb.fits o ≡ true → (a : A) × (This a ≡ o) × (ca.fits a ≡ true)
      back (This a) g = (a, refl, g)
      back (That b) g = absurd (false≢true (sym (v.never b) ∙ g))

  that_makes : Void A ca → Makes B (Either A B) cb That (tell_either ca.tell cb.tell) (fits_either ca.fits cb.fits)
  that_makes v = record { told = λ a r g. refl; forth = λ a g. g; back = back }
    where
      back : (o : Either A B) → fits_either ca.fits cb.fits o ≡ true → (b : B) × (That b ≡ o) × (cb.fits b ≡ true)
      back (That b) g = (b, refl, g)
      back (This a) g = absurd (false≢true (sym (v.never a) ∙ g))

  abbrev Elsewhere : List Token → Bool
  Elsewhere ts = cond (one_of codes ts) false true

  elsewhere_that : (ts : List Token) → one_of cb.starts ts ≡ true → Elsewhere ts ≡ true
  elsewhere_that ts s = ap (λ b. cond b false true) (apart_sets cb.starts codes d.that (front_code ts) s)

  swapped : (b : Bool) (x y : Read (Either A B)) → cond (cond b false true) y x ≡ cond b x y
  swapped true x y = refl
  swapped false x y = refl

  first_only : Lawful A (formed ca) → Void B cb → Lawful (Either A B) (formed Choice)
  first_only la v =
      let gate = gated_laws (Either A B) This_one (made_laws A (Either A B) ca This (tell_either ca.tell cb.tell) (fits_either ca.fits cb.fits) la (this_makes v)) d.solid (one_of codes) (λ ts s. within_sets ca.starts codes d.this (front_code ts) s) (λ t x y. refl) in
      let through = rerun_laws (Either A B) (rerun This_one (λ ts. cond (one_of codes ts) (becoming This (ca.run ts)) (Stopped (length ts)))) Choice.run
      (λ ts. ap (λ (m : Read B). cond (one_of codes ts) (becoming This (ca.run ts)) (becoming That m)) (sym (v.stops ts))) gate in
      subst (λ e. Lawful (Either A B) (record { tell = Choice.tell; fits = Choice.fits; run = Choice.run; starts = one_of Choice.starts; goes_on = one_of Choice.goes; empties = e })) d.solid
      (coded_laws (Either A B) (formed (rerun This_one Choice.run)) Choice.starts Choice.goes through (λ ts s. in_first ca.starts cb.starts (front_code ts) s) (λ ts s. in_first ca.goes cb.goes (front_code ts) s))

  second_only : Void A ca → Lawful B (formed cb) → Lawful (Either A B) (formed Choice)
  second_only v lb =
      let gate = gated_laws (Either A B) That_one (made_laws B (Either A B) cb That (tell_either ca.tell cb.tell) (fits_either ca.fits cb.fits) lb (that_makes v)) d.solid' Elsewhere elsewhere_that (λ t x y. refl) in
      let through = rerun_laws (Either A B) (rerun That_one (λ ts. cond (Elsewhere ts) (becoming That (cb.run ts)) (Stopped (length ts)))) Choice.run
      (λ ts. swapped (one_of codes ts) (Stopped (length ts)) (becoming That (cb.run ts)) ∙ ap (λ (m : Read A). cond (one_of codes ts) (becoming This m) (becoming That (cb.run ts))) (sym (v.stops ts))) gate in
      subst (λ e. Lawful (Either A B) (record { tell = Choice.tell; fits = Choice.fits; run = Choice.run; starts = one_of Choice.starts; goes_on = one_of Choice.goes; empties = e })) d.solid'
      (coded_laws (Either A B) (formed (rerun That_one Choice.run)) Choice.starts Choice.goes through (λ ts s. in_second ca.starts cb.starts (front_code ts) s) (λ ts s. in_second ca.goes cb.goes (front_code ts) s))

  neither : Void A ca → Void B cb → Void (Either A B) Choice
  neither v w = record {
    stops = λ ts. cond_both (one_of codes ts) (becoming This (ca.run ts)) (becoming That (cb.run ts)) (λ (m : Read (Either A B)). m ≡ Stopped (length ts)) (λ e. ap (becoming This) (v.stops ts)) (λ e. ap (becoming That) (w.stops ts));
    never = no_one;
  }
    where
      no_one : (o : Either A B) → fits_either ca.fits cb.fits o ≡ false
      no_one (This a) = v.never a
      no_one (That b) = w.never b

  pub one_or_law : Law A ca → Law B cb → Law (Either A B) Choice
  one_or_law l m =
      ⊎_elim
      (λ la. ⊎_elim (λ lb. inl (one_or_laws A B codes ca cb la lb d)) (λ w. inl (first_only la w)) m)
      (λ v. ⊎_elim (λ lb. inl (second_only v lb)) (λ w. inr (neither v w)) m)
      l

abbrev pub merged : {A : Type 0} → List ℕ → Coded A → Coded A → Coded A
merged codes ca cb = record { tell = ca.tell; fits = λ a. ca.fits a || cb.fits a; run = as_new either_one (either codes ca.run cb.run); starts = ca.starts ++ cb.starts; goes = ca.goes ++ cb.goes; empties = false }

pub merged_law : (A : Type 0) (codes : List ℕ) (ca cb : Coded A) → Law A ca → Law A cb → Apart A A codes ca cb → ((a : A) (r : List Told) → ca.tell a r ≡ cb.tell a r) → Law A (merged codes ca cb)
merged_law A codes ca cb l m d same =
    made_law (Either A A) A (one_or codes ca cb) either_one ca.tell (λ a. ca.fits a || cb.fits a) (one_or_law A A codes ca cb d l m)
    (record {
      told = told;
      forth = forth;
      back = λ a g. back a (cases_Bool (ca.fits a)) g;
    })
  where
    told : (o : Either A A) (r : List Told) → fits_either ca.fits cb.fits o ≡ true → ca.tell (either_one o) r ≡ tell_either ca.tell cb.tell o r
    told (This a) r g = refl
    told (That a) r g = same a r

    forth : (o : Either A A) → fits_either ca.fits cb.fits o ≡ true → (ca.fits (either_one o) || cb.fits (either_one o)) ≡ true
    forth (This a) g = or_left (ca.fits a) (cb.fits a) g
    forth (That a) g = or_right (ca.fits a) (cb.fits a) g

    back : (a : A) → (ca.fits a ≡ true) ⊎ (ca.fits a ≡ false) → (ca.fits a || cb.fits a) ≡ true → (o : Either A A) × (either_one o ≡ a) × (fits_either ca.fits cb.fits o ≡ true)
    back a (inl t) g = (This a, refl, t)
    back a (inr f) g = (That a, refl, ⊎_elim (λ t. absurd (false≢true (sym f ∙ t))) (λ t. t) (or_cases (ca.fits a) (cb.fits a) g))
