-- What is read with its height, and what stands behind signs.
use Rattle.std.proofs.Common.{◌≡◌, ℕ, ◌≤◌, min, List, length, Result, Ok, Err, refl, sym, ap, ◌∙◌, subst, arith}
use Rattle.jc_lexer.specs.declared.token.Token.{Token}
use Rattle.jc_reading.specs.declared.reading.Found as its
use Rattle.jc_reading.specs.declared.reading.Halt.{Halt}
use Rattle.jc_reading.specs.declared.reading.Halt.TheVariants as halt_of
use Rattle.jc_reading.specs.Giving.{Gives, Halts}
use Rattle.jc_reading.specs.Reading.{Read, Found, Stopped, Run, found, noting, ◌>>=◌, becoming, joined, as_new, in_turn, of_kind, at_kind}
use Rattle.jc_reading.specs.Further.{by_value}
use Rattle.jc_reading.specs.Reach.{Within, Near}
use Rattle.jc_parse_expr.specs.declared.measured.Measured.{Measured}
use Rattle.jc_parse_expr.specs.Measuring.{of_height}
use Rattle.jc_parse_expr.specs.PrimeCode.{IsMeasured, Measures, Reads}

module _ {A : Type 0} (height : A → ℕ) where
  abbrev with_height : A → Measured A
  with_height a = of_height a (height a)

  Kept : Read A → Read (Measured A) → Type 0
  Kept m (Found v r l) = (m ≡ Found v.tree r l) × IsMeasured height v
  Kept m (Stopped l) = m ≡ Stopped l

  kept : (m : Read A) → Kept m (becoming with_height m)
  unfolding Kept
  kept (Found a r l) = (refl, refl)
  kept (Stopped l) = refl

  pub gives_measures : (r : Result (its.Found (Measured A)) Halt) (m : Read A) → Gives r (becoming with_height m) → Measures height r m
  unfolding Kept
  gives_measures (Ok f) m g = subst (λ (x : Read (Measured A)). Kept m x) g (kept m)
  gives_measures (Err (halt_of.Stopped l)) m g = subst (λ (x : Read (Measured A)). Kept m x) g (kept m)
  gives_measures (Err halt_of.WantOfMemory) m g = tt

  pub reads_gives : (f : its.Found (Measured A)) (m : Read A) → Reads height f m → becoming with_height m ≡ Found f.value f.rest.now f.left
  reads_gives f m g = ap (becoming with_height) g.0 ∙ ap (λ (n : ℕ). Found (record { tree = f.value.tree; height = n }) f.rest.now f.left) (sym g.1)

  pub measures_gives : (r : Result (its.Found (Measured A)) Halt) (m : Read A) → Measures height r m → Gives r (becoming with_height m)
  measures_gives (Ok f) m g = reads_gives f m g
  measures_gives (Err (halt_of.Stopped l)) m g = ap (becoming with_height) g
  measures_gives (Err halt_of.WantOfMemory) m g = tt

-- what halts one reader halts another
pub halts_by : {A B : Type 0} (m : Read A) (n : Read B) → ((l : ℕ) → m ≡ Stopped l → n ≡ Stopped l) → (e : Halt) → Halts e m → Halts e n
halts_by m n f (halt_of.Stopped l) h = f l h
halts_by m n f halt_of.WantOfMemory h = tt

joined_again : {A B C : Type 0} (f : (C × A) → B) (c : C) (k : ℕ) (m : Read A) → Within k m → becoming f (noting k (becoming (joined c) m)) ≡ becoming (λ (a : A). f (c, a)) m
joined_again f c k (Found a r l) w = let e : min k l ≡ l = omega (arith, w.0, w.1) in ap (λ j. Found (f (c, a)) r j) e
joined_again f c k (Stopped l) w = let e : min k l ≡ l = omega (arith, w) in ap (λ j. Stopped j) e

-- what stands behind a sign or a keyword
pub behind_kind : {A B : Type 0} (f : (Unit {0} × A) → B) (code : ℕ) (m : Run A) (ts q : List Token) → Near m → of_kind code ts ≡ found tt q → as_new f (in_turn (of_kind code) m) ts ≡ becoming (λ (a : A). f (tt, a)) (m q)
behind_kind {A = A} f code m ts q w e =
    ap (λ (v : Read (Unit {0})). becoming f (v >>= (λ (u : Unit {0}) r. becoming (joined u) (m r)))) e ∙ joined_again f tt (length q) (m q) (w q)

pub behind_place : {A B : Type 0} (f : (ℕ × A) → B) (code : ℕ) (m : Run A) (ts q : List Token) (at : ℕ) → Near m → at_kind code ts ≡ found at q → as_new f (in_turn (at_kind code) m) ts ≡ becoming (λ (a : A). f (at, a)) (m q)
behind_place {A = A} f code m ts q at w e =
    ap (λ (v : Read ℕ). becoming f (v >>= (λ (u : ℕ) r. becoming (joined u) (m r)))) e ∙ joined_again f at (length q) (m q) (w q)

-- what was read, and how far
pub rest_of_near : {A : Type 0} (m : Run A) (ts : List Token) (a : A) (r : List Token) (l : ℕ) → Near m → m ts ≡ Found a r l → length r ≤ length ts
rest_of_near {A = A} m ts a r l w e = (subst (λ (v : Read A). Within (length ts) v) e (w ts)).1

pub stop_of_near : {A : Type 0} (m : Run A) (ts : List Token) (l : ℕ) → Near m → m ts ≡ Stopped l → l ≤ length ts
stop_of_near {A = A} m ts l w e = subst (λ (v : Read A). Within (length ts) v) e (w ts)

pub near_noted : {A B : Type 0} (f : A → B) (k : ℕ) (m : Read A) → Within k m → noting k (becoming f m) ≡ becoming f m
near_noted f k (Found a r l) w = let e : min k l ≡ l = omega (arith, w.0, w.1) in ap (λ j. Found (f a) r j) e
near_noted f k (Stopped l) w = let e : min k l ≡ l = omega (arith, w) in ap (λ j. Stopped j) e

-- readers one behind the other

pub twice : {A B C : Type 0} (f : B → C) (g : A → B) (k : A → C) (m : Read A) → ((a : A) → f (g a) ≡ k a) → becoming f (becoming g m) ≡ becoming k m
twice f g k (Found a r l) same = ap (λ c. Found c r l) (same a)
twice f g k (Stopped l) same = refl

pub noted : {A B C : Type 0} (f : (C × A) → B) (c : C) (l : ℕ) (m : Read A) → becoming f (noting l (becoming (joined c) m)) ≡ noting l (becoming (λ (a : A). f (c, a)) m)
noted f c l (Found a r k) = refl
noted f c l (Stopped k) = refl

pub then_made : {A B C : Type 0} (f : (A × B) → C) (m : Run A) (n : Run B) (ts q : List Token) (a : A) (l : ℕ) → m ts ≡ Found a q l → as_new f (in_turn m n) ts ≡ noting l (becoming (λ (b : B). f (a, b)) (n q))
then_made {A = A} f m n ts q a l e = ap (λ (v : Read A). becoming f (v >>= (λ a q. becoming (joined a) (n q)))) e ∙ noted f a l (n q)

pub value_made : {A B C : Type 0} (f : (A × B) → C) (m : Run A) (n : A → Run B) (ts q : List Token) (a : A) (l : ℕ) → m ts ≡ Found a q l → as_new f (by_value m n) ts ≡ noting l (becoming (λ (b : B). f (a, b)) (n a q))
value_made {A = A} f m n ts q a l e = ap (λ (v : Read A). becoming f (v >>= (λ a q. becoming (joined a) (n a q)))) e ∙ noted f a l (n a q)

-- one of which a value is made, and then another

mapped_noted : {A B C D : Type 0} (f : (A × B) → C) (g : A → D) (k : (D × B) → C) (same : (a : A) (b : B) → f (a, b) ≡ k (g a, b)) (a : A) (d : D) (l : ℕ) (m : Read B) → g a ≡ d → becoming f (noting l (becoming (joined a) m)) ≡ noting l (becoming (λ (b : B). k (d, b)) m)
mapped_noted f g k same a d l (Found b r j) e = ap (λ c. Found c r (min l j)) (same a b ∙ ap (λ x. k (x, b)) e)
mapped_noted f g k same a d l (Stopped j) e = refl

mapped_by : {A B C D : Type 0} (f : (A × B) → C) (g : A → D) (k : (D × B) → C) (same : (a : A) (b : B) → f (a, b) ≡ k (g a, b)) (v : Read A) (n : Run B) (q : List Token) (d : D) (l : ℕ) → becoming g v ≡ Found d q l → becoming f (v >>= (λ a q. becoming (joined a) (n q))) ≡ noting l (becoming (λ (b : B). k (d, b)) (n q))
mapped_by {B = B} {C = C} f g k same (Found a r j) n q d l e =
    let x : g a ≡ d = cc in
    let y : r ≡ q = cc in
    let z : j ≡ l = cc in
    mapped_noted f g k same a d j (n r) x ∙ ap (λ (s : List Token). noting j (becoming (λ (b : B). k (d, b)) (n s))) y ∙ ap (λ (i : ℕ). noting i (becoming (λ (b : B). k (d, b)) (n q))) z
mapped_by f g k same (Stopped j) n q d l e = cc

pub mapped_made : {A B C D : Type 0} (f : (A × B) → C) (g : A → D) (k : (D × B) → C) (same : (a : A) (b : B) → f (a, b) ≡ k (g a, b)) (m : Run A) (n : Run B) (ts q : List Token) (d : D) (l : ℕ) → as_new g m ts ≡ Found d q l → as_new f (in_turn m n) ts ≡ noting l (becoming (λ (b : B). k (d, b)) (n q))
mapped_made f g k same m n ts q d l e = mapped_by f g k same (m ts) n q d l e

stops_by : {A B C D : Type 0} (f : (A × B) → C) (g : A → D) (v : Read A) (n : Run B) (l : ℕ) → becoming g v ≡ Stopped l → becoming f (v >>= (λ a q. becoming (joined a) (n q))) ≡ Stopped l
stops_by f g (Found a r j) n l e = cc
stops_by f g (Stopped j) n l e = let z : j ≡ l = cc in ap (λ i. Stopped i) z

pub mapped_stops : {A B C D : Type 0} (f : (A × B) → C) (g : A → D) (m : Run A) (n : Run B) (ts : List Token) (l : ℕ) → as_new g m ts ≡ Stopped l → as_new f (in_turn m n) ts ≡ Stopped l
mapped_stops f g m n ts l e = stops_by f g (m ts) n l e

-- an answer that is read in another way

pub measured_as : {A : Type 0} (height : A → ℕ) (answer : Result (its.Found (Measured A)) Halt) (m n : Read A) → n ≡ m → Measures height answer m → Measures height answer n
measured_as height answer m n e g = subst (λ (v : Read _). Measures height answer v) (sym e) g
