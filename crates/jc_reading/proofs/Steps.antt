-- How the steps of reading go together.
use Rattle.std.proofs.Common.{◌≡◌, ℕ, ◌+◌, ◌<◌, ◌≤◌, min, Bool, true, false, List, [], ◌∷◌, ◌++◌, length, length-append, refl, sym, ap, ◌∙◌, subst, arith}
use Rattle.std.proofs.lemmas.Bool.{false≢true}
use Rattle.jc_lexer.specs.declared.token.Token.{Token}
use Rattle.jc_grammar.specs.Told.{Told}
use Rattle.jc_reading.specs.Reach.{Within}
use Rattle.jc_reading.specs.Reading.{Read, Found, Stopped, found, noting, ◌>>=◌, becoming, Takes}

-- each answer has P
abbrev pub Good : {A : Type 0} → (A → List Token → Type 0) → Read A → Type 0
Good P (Found a r l) = P a r
Good P (Stopped l) = Unit {0}

-- something is found, with at most k tokens after it
abbrev pub Goes : {A : Type 0} → ℕ → Read A → Type 0
Goes k (Found a r l) = length r ≤ k
Goes k (Stopped l) = ⊥

-- exactly this is found
abbrev pub IsFound : {A : Type 0} → A → List Token → Read A → Type 0
IsFound a r m = (l : ℕ) × (m ≡ Found a r l)

-- nothing is read: where there may be nothing, that is found
abbrev pub Refuses : {A : Type 0} → Bool → List Token → Read A → Type 0
Refuses empties ts (Found a r l) = (empties ≡ true) × (r ≡ ts)
Refuses empties ts (Stopped l) = empties ≡ false

abbrev pub reach : {A : Type 0} → Read A → ℕ
reach (Found a r l) = l
reach (Stopped l) = l

-- the same answer, before x and before y
abbrev pub Moved : {A : Type 0} → List Token → List Token → Read A → Read A → Type 0
Moved x y (Found a r l) (Found b s k) = (a ≡ b) × (q : List Token) × (r ≡ q ++ x) × (s ≡ q ++ y) × (l + length y ≡ k + length x)
Moved x y (Stopped l) (Stopped k) = l + length y ≡ k + length x
Moved x y (Found a r l) (Stopped k) = ⊥
Moved x y (Stopped l) (Found b s k) = ⊥

-- where the reach is before x
abbrev pub Moves : {A : Type 0} → List Token → List Token → Read A → Read A → Type 0
Moves x y m n = length x < reach m → Moved x y m n

pub good_noting : {B : Type 0} (Q : B → List Token → Type 0) (k : ℕ) (m : Read B) → Good Q m → Good Q (noting k m)
good_noting Q k (Found b r l) h = h
good_noting Q k (Stopped l) h = h

pub good_becoming : {A B : Type 0} (P : A → List Token → Type 0) (Q : B → List Token → Type 0) (f : A → B) (m : Read A) → Good P m → ((a : A) (r : List Token) → P a r → Q (f a) r) → Good Q (becoming f m)
good_becoming P Q f (Found a r l) g h = h a r g
good_becoming P Q f (Stopped l) g h = tt

pub good_bind : {A B : Type 0} (P : A → List Token → Type 0) (Q : B → List Token → Type 0) (m : Read A) (f : A → List Token → Read B) → Good P m → ((a : A) (r : List Token) → P a r → Good Q (f a r)) → Good Q (m >>= f)
good_bind P Q (Found a r l) f g h = good_noting Q l (f a r) (h a r g)
good_bind P Q (Stopped l) f g h = tt

pub within_noting : {B : Type 0} (k n : ℕ) (m : Read B) → Within n m → Within n (noting k m)
within_noting k n (Found a r l) h = (omega arith, h.1)
within_noting k n (Stopped l) h = omega arith

pub within_more : {B : Type 0} (k n : ℕ) (m : Read B) → k ≤ n → Within k m → Within n m
within_more k n (Found a r l) e h = (h.0, omega arith)
within_more k n (Stopped l) e h = omega arith

pub within_becoming : {A B : Type 0} (n : ℕ) (f : A → B) (m : Read A) → Within n m → Within n (becoming f m)
within_becoming n f (Found a r l) h = h
within_becoming n f (Stopped l) h = h

pub within_bind : {A B : Type 0} (n : ℕ) (m : Read A) (f : A → List Token → Read B) → Within n m → ((a : A) (r : List Token) → Within (length r) (f a r)) → Within n (m >>= f)
within_bind n (Found a r l) f h g = within_noting l n (f a r) (within_more (length r) n (f a r) h.1 (g a r))
within_bind n (Stopped l) f h g = h

pub goes_noting : {B : Type 0} (k j : ℕ) (m : Read B) → Goes j m → Goes j (noting k m)
goes_noting k j (Found a r l) h = h
goes_noting k j (Stopped l) h = h

pub goes_more : {B : Type 0} (k n : ℕ) (m : Read B) → k ≤ n → Goes k m → Goes n m
goes_more k n (Found a r l) e h = omega arith
goes_more k n (Stopped l) e h = h

pub goes_becoming : {A B : Type 0} (k : ℕ) (f : A → B) (m : Read A) → Goes k m → Goes k (becoming f m)
goes_becoming k f (Found a r l) h = h
goes_becoming k f (Stopped l) h = h

pub goes_bind : {A B : Type 0} (j k : ℕ) (m : Read A) (f : A → List Token → Read B) → Goes j m → ((a : A) (r : List Token) → length r ≤ j → Goes k (f a r)) → Goes k (m >>= f)
goes_bind j k (Found a r l) f g h = goes_noting l k (f a r) (h a r g)
goes_bind j k (Stopped l) f g h = absurd g

pub goes_after : {A B : Type 0} (a : A) (q : List Token) (k : ℕ) (m : Read A) (f : A → List Token → Read B) → IsFound a q m → Goes k (f a q) → Goes k (m >>= f)
goes_after {A = A} a q k m f h g = subst (λ (x : Read A). Goes k (x >>= f)) (sym h.1) (goes_noting h.0 k (f a q) g)

pub found_noting : {B : Type 0} (k : ℕ) (a : B) (r : List Token) (m : Read B) → IsFound a r m → IsFound a r (noting k m)
found_noting k a r m h = (min k h.0, ap (noting k) h.1)

pub found_becoming : {A B : Type 0} (f : A → B) (a : A) (r : List Token) (m : Read A) → IsFound a r m → IsFound (f a) r (becoming f m)
found_becoming f a r m h = (h.0, ap (becoming f) h.1)

pub found_bind : {A B : Type 0} (a : A) (q : List Token) (b : B) (r : List Token) (m : Read A) (f : A → List Token → Read B) → IsFound a q m → IsFound b r (f a q) → IsFound b r (m >>= f)
found_bind {A = A} a q b r m f h k = (min h.0 k.0, ap (λ (x : Read A). x >>= f) h.1 ∙ ap (noting h.0) k.1)

pub reach_noting : {B : Type 0} (k : ℕ) (m : Read B) → reach (noting k m) ≡ min k (reach m)
reach_noting k (Found a r l) = refl
reach_noting k (Stopped l) = refl

pub reach_becoming : {A B : Type 0} (f : A → B) (m : Read A) → reach (becoming f m) ≡ reach m
reach_becoming f (Found a r l) = refl
reach_becoming f (Stopped l) = refl

pub moved_noting : {B : Type 0} (x y : List Token) (k j : ℕ) (m n : Read B) → k + length y ≡ j + length x → Moved x y m n → Moved x y (noting k m) (noting j n)
moved_noting x y k j (Found a r l) (Found b s i) e h = (h.0, h.1, h.2, h.3, omega (arith, h.4))
moved_noting x y k j (Stopped l) (Stopped i) e h = omega arith
moved_noting x y k j (Found a r l) (Stopped i) e h = h
moved_noting x y k j (Stopped l) (Found b s i) e h = h

pub moves_becoming : {A B : Type 0} (x y : List Token) (f : A → B) (m n : Read A) → Moves x y m n → Moves x y (becoming f m) (becoming f n)
moves_becoming x y f (Found a r l) (Found b s k) h lt = let w = h lt in (ap f w.0, w.1, w.2, w.3, w.4)
moves_becoming x y f (Stopped l) (Stopped k) h lt = h lt
moves_becoming x y f (Found a r l) (Stopped k) h lt = h lt
moves_becoming x y f (Stopped l) (Found b s k) h lt = h lt

pub moves_found : {A : Type 0} (x y : List Token) (a : A) (q : List Token) → Moves x y (found a (q ++ x)) (found a (q ++ y))
moves_found x y a q h = (refl, q, refl, refl, omega (arith, length-append q x, length-append q y))

moved_go : {A B : Type 0} (x y : List Token) (a b : A) (r s q : List Token) (l k : ℕ) (f g : A → List Token → Read B) → a ≡ b → r ≡ q ++ x → s ≡ q ++ y → l + length y ≡ k + length x → ((c : A) → Moves x y (f c (q ++ x)) (g c (q ++ y))) → length x < reach (f a r) → Moved x y (noting l (f a r)) (noting k (g b s))
moved_go {A = A} x y a b r s q l k f g ab rq sq e i lt =
    let lt' = subst (λ (v : List Token). length x < reach (f a v)) rq lt in
    let m = moved_noting x y l k (f a (q ++ x)) (g a (q ++ y)) e (i a lt') in
    let m1 = subst (λ (v : List Token). Moved x y (noting l (f a v)) (noting k (g a (q ++ y)))) (sym rq) m in
    let m2 = subst (λ (v : List Token). Moved x y (noting l (f a r)) (noting k (g a v))) (sym sq) m1 in
    subst (λ (c : A). Moved x y (noting l (f a r)) (noting k (g c s))) ab m2

pub moves_bind : {A B : Type 0} (x y : List Token) (p : List Token) (m n : Read A) (f g : A → List Token → Read B) → Within (length (p ++ x)) m → Moves x y m n → ((a : A) (q : List Token) → length q ≤ length p → Moves x y (f a (q ++ x)) (g a (q ++ y))) → Moves x y (m >>= f) (n >>= g)
moves_bind x y p (Found a r l) (Found b s k) f g wi h i lt =
    let u : length x < min l (reach (f a r)) = subst (λ (j : ℕ). length x < j) (reach_noting l (f a r)) lt in
    let w = h (omega arith) in
    let shorter : length w.1 ≤ length p = omega (arith, ap length w.2, length-append w.1 x, length-append p x, wi.1) in
    moved_go x y a b r s w.1 l k f g w.0 w.2 w.3 w.4 (λ c. i c w.1 shorter) (omega arith)
moves_bind x y p (Stopped l) (Stopped k) f g wi h i lt = h lt
moves_bind x y p (Found a r l) (Stopped k) f g wi h i lt =
    let u : length x < min l (reach (f a r)) = subst (λ (j : ℕ). length x < j) (reach_noting l (f a r)) lt in absurd (h (omega arith))
moves_bind x y p (Stopped l) (Found b s k) f g wi h i lt = absurd (h lt)

pub moves_stop : (A : Type 0) (x y : List Token) (p : List Token) → Moves {A = A} x y (Stopped (length (p ++ x))) (Stopped (length (p ++ y)))
moves_stop A x y p lt = omega (arith, length-append p x, length-append p y)

-- no token is left before x
pub moves_none : {A : Type 0} (x y : List Token) (m n : Read A) → Within (length x) m → Moves x y m n
moves_none x y (Found a r l) n w lt = absurd (omega (arith, w.0, w.1))
moves_none x y (Stopped l) n w lt = absurd (omega (arith, w))

-- what is told one after the other stands one after the other
pub takes_cut : (b : Bool) (d e : List Told) (ts r : List Token) → Takes b (d ++ e) ts r → (m : List Token) × Takes b d ts m × Takes false e m r
takes_cut b [] e ts r h = (ts, refl, weaker b e ts r h)
  where
    weaker : (b : Bool) (e : List Told) (ts r : List Token) → Takes b e ts r → Takes false e ts r
    weaker b [] ts r h = h
    weaker b (d ∷ e) [] r h = h
    weaker b (d ∷ e) (t ∷ ts) r h = ((h.0.0, h.0.1, h.0.2, λ q. refl), h.1)
takes_cut b (d ∷ ds) e [] r h = absurd h
takes_cut b (d ∷ ds) e (t ∷ ts) r h = let w = takes_cut _ ds e ts r h.1 in (w.0, (h.0, w.1), w.2)

-- no operator begins there that a `>` may not touch
abbrev pub Plain : List Told → Type 0
Plain [] = Unit {0}
Plain (d ∷ told) = d.apart ≡ false

pub takes_join : (b : Bool) (d e : List Told) (ts m r : List Token) → Plain e → Takes b d ts m → Takes false e m r → Takes b (d ++ e) ts r
takes_join b [] e ts m r p h k = stronger b e ts r p (subst (λ (v : List Token). Takes false e v r) (sym h) k)
  where
    stronger : (b : Bool) (e : List Told) (ts r : List Token) → Plain e → Takes false e ts r → Takes b e ts r
    stronger b [] ts r p h = h
    stronger b (d ∷ e) [] r p h = h
    stronger b (d ∷ e) (t ∷ ts) r p h = ((h.0.0, h.0.1, h.0.2, λ q. absurd (false≢true (sym p ∙ q))), h.1)
takes_join b (d ∷ ds) e [] m r p h k = absurd h
takes_join b (d ∷ ds) e (t ∷ ts) m r p h k = (h.0, takes_join _ ds e ts m r p h.1 k)

-- the tokens that are taken, whatever follows
pub takes_front : (b : Bool) (d : List Told) (ts r : List Token) → Takes b d ts r → (front : List Token) × (ts ≡ front ++ r) × ((z : List Token) → Takes b d (front ++ z) z)
takes_front b [] ts r h = ([], h, λ z. refl)
takes_front b (d ∷ ds) [] r h = absurd h
takes_front b (d ∷ ds) (t ∷ ts) r h = let w = takes_front _ ds ts r h.1 in (t ∷ w.0, ap (λ (l : List Token). t ∷ l) w.1, λ z. (h.0, w.2 z))

pub takes_length : (b : Bool) (d : List Told) (ts r : List Token) → Takes b d ts r → length ts ≡ length d + length r
takes_length b [] ts r h = ap length h ∙ omega arith
takes_length b (d ∷ ds) [] r h = absurd h
takes_length b (d ∷ ds) (t ∷ ts) r h = let e = takes_length _ ds ts r h.1 in omega (arith, e)
