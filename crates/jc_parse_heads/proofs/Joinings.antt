-- How what is read one behind the other goes together.
use Rattle.std.proofs.Common.{◌≡◌, ℕ, zero, suc, min, true, false, List, length, Result, Ok, Err, IfOk, ◌≤◌, refl, sym, ap, ◌∙◌, subst, arith}
use Rattle.std.proofs.lemmas.Bool.{cond-true, cond-false}
use Rattle.jc_lexer.specs.declared.token.Token.{Token}
use Rattle.jc_reading.specs.declared.reading.Found as answer
use Rattle.jc_reading.specs.declared.reading.Halt.{Halt}
use Rattle.jc_reading.specs.declared.reading.Halt.TheVariants as halt_of
use Rattle.jc_reading.specs.Giving.{Gives, Halts, Is}
use Rattle.jc_reading.specs.Kinds.{one_of}
use Rattle.jc_reading.specs.Reading.{Read, Found, Stopped, Run, noting, becoming, joined, ◌>>=◌, as_new, in_turn, Either, This, That, either}
use Rattle.jc_reading.specs.Further.{with_room, either_one}
use Rattle.jc_unit_laws.specs.UnitReading.{or_others}
use Rattle.jc_parse_nodes.specs.Joins.{behind, Joined}
use Rattle.jc_parse_expr.proofs.JoinedSteps.{wants}
use Rattle.jc_parse_expr.proofs.PairSteps.{remade}

-- a reach that is noted

pub noted_halts : {A : Type 0} (left : ℕ) (e : Halt) (m : Read A) → Halts e m → Halts (behind left e) (noting left m)
noted_halts left (halt_of.Stopped reach) m h = ap (noting left) h
noted_halts left halt_of.WantOfMemory m h = tt

pub found_same : {A : Type 0} (m : Read A) (a b : A) (q r : List Token) (l k : ℕ) → m ≡ Found a q l → b ≡ a → r ≡ q → k ≡ l → m ≡ Found b r k
found_same m a b q r l k e f g h = e ∙ ap (λ x. Found x q l) (sym f) ∙ ap (λ x. Found b x l) (sym g) ∙ ap (λ x. Found b r x) (sym h)

-- halts go on

pub halts_as : {A B : Type 0} (f : A → B) (m : Read A) (e : Halt) → Halts e m → Halts e (becoming f m)
halts_as f m (halt_of.Stopped l) h = ap (becoming f) h
halts_as f m halt_of.WantOfMemory h = tt

pub halts_bind : {A B : Type 0} (m : Read A) (f : A → List Token → Read B) (e : Halt) → Halts e m → Halts e (m >>= f)
halts_bind {A = A} m f (halt_of.Stopped l) h = ap (λ (v : Read A). v >>= f) h
halts_bind m f halt_of.WantOfMemory h = tt

-- one read, and another behind it

module _ {A B C : Type 0} (node : (A × B) → C) (m : Read A) (n : Run B) where
  abbrev pub Two : Read C
  Two = becoming node (m >>= (λ a q. becoming (joined a) (n q)))

  pub two_halts : (e : Halt) → Halts e m → Halts e Two
  two_halts e h = halts_as node (m >>= (λ a q. becoming (joined a) (n q))) e (halts_bind m (λ a q. becoming (joined a) (n q)) e h)

  two_step : (first : answer.Found A) → Is first m → Two ≡ becoming node (noting first.left (becoming (joined first.value) (n first.rest.now)))
  two_step first e = ap (λ (v : Read A). becoming node (v >>= (λ a q. becoming (joined a) (n q)))) e

  stop_step : (first : answer.Found A) (h halt : Halt) → Halts h (n first.rest.now) → halt ≡ behind first.left h → Halts halt (becoming node (noting first.left (becoming (joined first.value) (n first.rest.now))))
  stop_step first h halt g b =
      subst (λ (k : Halt). Halts k (becoming node (noting first.left (becoming (joined first.value) (n first.rest.now))))) (sym b)
      (halts_as node (noting first.left (becoming (joined first.value) (n first.rest.now))) (behind first.left h) (noted_halts first.left h (becoming (joined first.value) (n first.rest.now)) (halts_as (joined first.value) (n first.rest.now) h g)))

  pub two_gives : (first : answer.Found A) (more : Result (answer.Found B) Halt) (result : Result (answer.Found C) Halt) → Is first m → Gives more (n first.rest.now) → Joined (λ a b. node (a, b)) first more result → Gives result Two
  two_gives first (Ok p) (Ok r) e g b =
      found_same Two (node (first.value, p.value)) r.value p.rest.now r.rest.now (min first.left p.left) r.left
      (two_step first e ∙ ap (λ (v : Read B). becoming node (noting first.left (becoming (joined first.value) v))) g) b.0 b.1 b.2
  two_gives first (Ok p) (Err halt) e g b = wants Two halt b
  two_gives first (Err h) (Ok r) e g b = absurd b
  two_gives first (Err h) (Err halt) e g b = subst (λ (v : Read C). Halts halt v) (sym (two_step first e)) (stop_step first h halt g b)

-- what is read of a first part and of the last one behind it, which together make the whole
unfoldable pub Splits : {P D C : Type 0} → Run P → Run D → Run C → ((D × C) → P) → Type 0
Splits T F N w = (ts : List Token) → T ts ≡ as_new w (in_turn F N) ts

as_self : {A : Type 0} (m : Read A) → m ≡ becoming (λ a. a) m
as_self (Found a r l) = refl
as_self (Stopped l) = refl

pub split_here : {A B : Type 0} (m : Run A) (n : Run B) → Splits (in_turn m n) m n (λ p. p)
unfolding Splits
split_here m n ts = as_self (in_turn m n ts)

module _ {A P D C : Type 0} (F : Run D) (N : Run C) (w : (D × C) → P) where
  split_end : (a : A) (d : D) (l k : ℕ) (v : Read C) → noting l (becoming (joined a) (becoming w (noting k (becoming (joined d) v)))) ≡ becoming (λ (p : (A × D) × C). (p.0.0, w (p.0.1, p.1))) (noting (min l k) (becoming (joined (a, d)) v))
  split_end a d l k (Found c s j) = let e : min l (min k j) ≡ min (min l k) j = omega arith in ap (λ (i : ℕ). Found (a, w (d, c)) s i) e
  split_end a d l k (Stopped j) = let e : min l (min k j) ≡ min (min l k) j = omega arith in ap (λ (i : ℕ). Stopped i) e

  split_mid : (a : A) (l : ℕ) (v : Read D) → noting l (becoming (joined a) (becoming w (v >>= (λ d r. becoming (joined d) (N r))))) ≡ becoming (λ (p : (A × D) × C). (p.0.0, w (p.0.1, p.1))) (noting l (becoming (joined a) v) >>= (λ d r. becoming (joined d) (N r)))
  split_mid a l (Found d r k) = split_end a d l k (N r)
  split_mid a l (Stopped k) = refl

  split_from : (T : Run P) → ((q : List Token) → T q ≡ as_new w (in_turn F N) q) → (v : Read A) → (v >>= (λ a q. becoming (joined a) (T q))) ≡ becoming (λ (p : (A × D) × C). (p.0.0, w (p.0.1, p.1))) ((v >>= (λ a q. becoming (joined a) (F q))) >>= (λ d r. becoming (joined d) (N r)))
  split_from T s (Found a q l) = ap (λ (x : Read P). noting l (becoming (joined a) x)) (s q) ∙ split_mid a l (F q)
  split_from T s (Stopped l) = refl

pub split_behind : {A P D C : Type 0} (m : Run A) (T : Run P) (F : Run D) (N : Run C) (w : (D × C) → P) → Splits T F N w → Splits (in_turn m T) (in_turn m F) N (λ (p : (A × D) × C). (p.0.0, w (p.0.1, p.1)))
unfolding Splits
split_behind m T F N w s ts = split_from F N w T s (m ts)

pub split_room : {P D C : Type 0} (h : ℕ) (T : Run P) (F : Run D) (N : Run C) (w : (D × C) → P) → Splits T F N w → Splits (with_room h T) (with_room h F) N w
unfolding Splits with_room
split_room zero T F N w s ts = refl
split_room (suc h) T F N w s ts = s ts

-- the first one is made of another
module _ {A B D E : Type 0} (make : (A × B) → E) (fd : A → D) (node : (D × B) → E) (n : Run B) (same : (a : A) (b : B) → make (a, b) ≡ node (fd a, b)) where
  first_last : (a : A) (l : ℕ) (v : Read B) → becoming make (noting l (becoming (joined a) v)) ≡ becoming node (noting l (becoming (joined (fd a)) v))
  first_last a l (Found b r k) = ap (λ (e : E). Found e r (min l k)) (same a b)
  first_last a l (Stopped k) = refl

  pub first_read : (m : Read A) → becoming make (m >>= (λ a q. becoming (joined a) (n q))) ≡ becoming node (becoming fd m >>= (λ d q. becoming (joined d) (n q)))
  first_read (Found a q l) = first_last a l (n q)
  first_read (Stopped l) = refl

  pub first_made : (m : Run A) (ts : List Token) → as_new make (in_turn m n) ts ≡ as_new node (in_turn (as_new fd m) n) ts
  first_made m ts = first_read (m ts)

-- the second one is made of another
module _ {A B D E : Type 0} (make : (A × B) → E) (fd : B → D) (node : (A × D) → E) (same : (a : A) (b : B) → make (a, b) ≡ node (a, fd b)) where
  second_last : (a : A) (l : ℕ) (v : Read B) → becoming make (noting l (becoming (joined a) v)) ≡ becoming node (noting l (becoming (joined a) (becoming fd v)))
  second_last a l (Found b r k) = ap (λ (e : E). Found e r (min l k)) (same a b)
  second_last a l (Stopped k) = refl

  pub second_read : (m : Read A) (n : Run B) → becoming make (m >>= (λ a q. becoming (joined a) (n q))) ≡ becoming node (m >>= (λ a q. becoming (joined a) (as_new fd n q)))
  second_read (Found a q l) n = second_last a l (n q)
  second_read (Stopped l) n = refl

  pub second_made : (m : Run A) (n : Run B) (ts : List Token) → as_new make (in_turn m n) ts ≡ as_new node (in_turn m (as_new fd n)) ts
  second_made m n ts = second_read (m ts) n

-- made of what was made

-- the whole is made of what is made of the first part, and of the last one
pub grouped : {P D C G E : Type 0} (T : Run P) (F : Run D) (N : Run C) (w : (D × C) → P) (make : P → E) (fd : D → G) (node : (G × C) → E) → Splits T F N w → ((d : D) (c : C) → make (w (d, c)) ≡ node (fd d, c)) → (ts : List Token) → as_new make T ts ≡ as_new node (in_turn (as_new fd F) N) ts
unfolding Splits
grouped {P = P} T F N w make fd node s same ts =
    ap (becoming make) (s ts) ∙ remade w make (λ p. make (w p)) (in_turn F N ts) (λ p. refl) ∙ first_made (λ p. make (w p)) fd node N same F ts

pub noted_made : {A B : Type 0} (f : A → B) (l : ℕ) (m : Read A) → becoming f (noting l m) ≡ noting l (becoming f m)
noted_made f l (Found a r k) = refl
noted_made f l (Stopped k) = refl

-- a first token

pub cut : {A B C : Type 0} (make : (A × B) → C) (m : Run A) (n : Run B) (ts q : List Token) (a : A) (l : ℕ) → m ts ≡ Found a q l → as_new make (in_turn m n) ts ≡ noting l (as_new (λ b. make (a, b)) n q)
cut {A = A} make m n ts q a l e = ap (λ (v : Read A). becoming make (v >>= (λ a q. becoming (joined a) (n q)))) e ∙ inside (n q)
  where
    inside : (v : Read _) → becoming make (noting l (becoming (joined a) v)) ≡ noting l (becoming (λ b. make (a, b)) v)
    inside (Found b r k) = refl
    inside (Stopped k) = refl

-- a first one and a sign behind it

-- room

pub room_there : {A : Type 0} (h : ℕ) (m : Run A) (ts : List Token) → (h ≡ 0 → ⊥) → with_room h m ts ≡ m ts
unfolding with_room
room_there zero m ts n = absurd (n refl)
room_there (suc h) m ts n = refl

pub room_gone : {A : Type 0} (h : ℕ) (m : Run A) (ts : List Token) → h ≡ 0 → with_room h m ts ≡ Stopped (length ts)
unfolding with_room
room_gone {A = A} h m ts e = subst (λ (k : ℕ). ◌≡◌ {A = Read A} (with_room k m ts) (Stopped (length ts))) (sym e) refl

-- one of two kinds

one_back : {A : Type 0} (m : Read A) → becoming either_one (becoming {A = A} {B = Either A A} This m) ≡ m
one_back (Found a r l) = refl
one_back (Stopped l) = refl

other_back : {A : Type 0} (m : Read A) → becoming either_one (becoming {A = A} {B = Either A A} That m) ≡ m
other_back (Found a r l) = refl
other_back (Stopped l) = refl

pub or_this : {A : Type 0} (codes : List ℕ) (m n : Run A) (ts : List Token) → one_of codes ts ≡ true → or_others codes m n ts ≡ m ts
or_this codes m n ts e = ap (becoming either_one) (cond-true (one_of codes ts) (becoming This (m ts)) (becoming That (n ts)) e) ∙ one_back (m ts)

pub or_that : {A : Type 0} (codes : List ℕ) (m n : Run A) (ts : List Token) → one_of codes ts ≡ false → or_others codes m n ts ≡ n ts
or_that codes m n ts e = ap (becoming either_one) (cond-false (one_of codes ts) (becoming This (m ts)) (becoming That (n ts)) e) ∙ other_back (n ts)

pub either_this : {A B C : Type 0} (make : Either A B → C) (codes : List ℕ) (m : Run A) (n : Run B) (ts : List Token) → one_of codes ts ≡ true → as_new make (either codes m n) ts ≡ as_new (λ a. make (This a)) m ts
either_this make codes m n ts e = ap (becoming make) (cond-true (one_of codes ts) (becoming This (m ts)) (becoming That (n ts)) e) ∙ remade This make (λ a. make (This a)) (m ts) (λ a. refl)

pub either_that : {A B C : Type 0} (make : Either A B → C) (codes : List ℕ) (m : Run A) (n : Run B) (ts : List Token) → one_of codes ts ≡ false → as_new make (either codes m n) ts ≡ as_new (λ b. make (That b)) n ts
either_that make codes m n ts e = ap (becoming make) (cond-false (one_of codes ts) (becoming This (m ts)) (becoming That (n ts)) e) ∙ remade That make (λ b. make (That b)) (n ts) (λ b. refl)

-- a first value that is read already, and two parts behind it
module _ {A B C D E : Type 0} (make : (A × (B × C)) → E) (a : A) (fd : C → D) (node : (B × D) → E) (same : (b : B) (c : C) → make (a, (b, c)) ≡ node (b, fd c)) where
  noted_last : (b : B) (l k : ℕ) (w : Read C) → becoming make (noting l (becoming (joined a) (noting k (becoming (joined b) w)))) ≡ becoming node (noting (min l k) (becoming (joined b) (becoming fd w)))
  noted_last b l k (Found c s j) = ap (λ (e : E). Found e s (min l (min k j))) (same b c) ∙ (let w : min l (min k j) ≡ min (min l k) j = omega arith in ap (λ (i : ℕ). Found (node (b, fd c)) s i) w)
  noted_last b l k (Stopped j) = let w : min l (min k j) ≡ min (min l k) j = omega arith in ap (λ (i : ℕ). Stopped i) w

  pub noted_two : (l : ℕ) (v : Read B) (n : Run C) → becoming make (noting l (becoming (joined a) (v >>= (λ b r. becoming (joined b) (n r))))) ≡ Two node (noting l v) (as_new fd n)
  noted_two l (Found b r k) n = noted_last b l k (n r)
  noted_two l (Stopped k) n = refl

pub room_first : {A B : Type 0} (h : ℕ) (m : Run A) (n : Run B) (ts : List Token) → with_room h (in_turn m n) ts ≡ in_turn (with_room h m) n ts
unfolding with_room
room_first zero m n ts = refl
room_first (suc h) m n ts = refl

-- what is read behind is the same
pub second_same : {A B C : Type 0} (node : (A × B) → C) (m : Read A) (n o : Run B) → ((q : List Token) → n q ≡ o q) → Two node m n ≡ Two node m o
second_same node (Found a q l) n o e = ap (λ (v : Read _). becoming node (noting l (becoming (joined a) v))) (e q)
second_same node (Stopped l) n o e = refl

-- what a first value and more behind it give
pub joined_gives : {A B C : Type 0} (k : A → B → C) (first : answer.Found A) (m : Read B) (more : Result (answer.Found B) Halt) (result : Result (answer.Found C) Halt) → Gives more m → Joined k first more result → Gives result (noting first.left (becoming (k first.value) m))
joined_gives k first m (Ok p) (Ok r) g b =
    found_same (noting first.left (becoming (k first.value) m)) (k first.value p.value) r.value p.rest.now r.rest.now (min first.left p.left) r.left (ap (λ (v : Read _). noting first.left (becoming (k first.value) v)) g) b.0 b.1 b.2
joined_gives k first m (Ok p) (Err halt) g b = wants (noting first.left (becoming (k first.value) m)) halt b
joined_gives k first m (Err h) (Ok r) g b = absurd b
joined_gives k first m (Err h) (Err halt) g b =
    subst (λ (e : Halt). Halts e (noting first.left (becoming (k first.value) m))) (sym b) (noted_halts first.left h (becoming (k first.value) m) (halts_as (k first.value) m h g))

module _ {A B C E : Type 0} (make : (A × (B × C)) → E) (a : A) (n : Run C) where
  bind_last : (b : B) (l k : ℕ) (w : Read C) → becoming make (noting l (becoming (joined a) (noting k (becoming (joined b) w)))) ≡ becoming (λ (p : B × C). make (a, p)) (noting (min l k) (becoming (joined b) w))
  bind_last b l k (Found c s j) = let w : min l (min k j) ≡ min (min l k) j = omega arith in ap (λ (i : ℕ). Found (make (a, (b, c))) s i) w
  bind_last b l k (Stopped j) = let w : min l (min k j) ≡ min (min l k) j = omega arith in ap (λ (i : ℕ). Stopped i) w

  pub noted_bind : (l : ℕ) (v : Read B) → becoming make (noting l (becoming (joined a) (v >>= (λ b r. becoming (joined b) (n r))))) ≡ becoming (λ (p : B × C). make (a, p)) (noting l v >>= (λ b r. becoming (joined b) (n r)))
  noted_bind l (Found b r k) = bind_last b l k (n r)
  noted_bind l (Stopped k) = refl

pub shorter_still : {A : Type 0} (k n : ℕ) (result : Result (answer.Found A) Halt) → k ≤ n → IfOk result (λ f. length f.rest.now ≤ k) → IfOk result (λ f. length f.rest.now ≤ n)
shorter_still k n (Ok f) e g = omega (arith, e, g)
shorter_still k n (Err h) e g = tt
