-- What is read of two readers in turn, from what each reads.
use Rattle.std.proofs.Common.{◌≡◌, ℕ, min, List, length, refl, sym, ap, ◌∙◌, subst}
use Rattle.jc_lexer.specs.declared.token.Token.{Token}
use Rattle.jc_reading.specs.declared.reading.Halt.{Halt}
use Rattle.jc_reading.specs.Giving.{Halts}
use Rattle.jc_reading.specs.Reading.{Read, Found, Stopped, Run, found, noting, becoming, joined, ◌>>=◌, in_turn}
use Rattle.jc_reading.specs.Further.{by_value}
use Rattle.jc_reading.proofs.Steps.{within_becoming}
use Rattle.jc_reading.proofs.Turns.{noting_far}
use Rattle.jc_reading.specs.Reach.{Within}
use Rattle.jc_parse_expr.proofs.MeasuredRead.{halts_by}

module _ {A B : Type 0} (m : Run A) (n : A → Run B) where
  pub by_found : (ts : List Token) (a : A) (q : List Token) (l : ℕ) (b : B) (r : List Token) (k : ℕ) → m ts ≡ Found a q l → n a q ≡ Found b r k → by_value m n ts ≡ Found (a, b) r (min l k)
  by_found ts a q l b r k e f = ap (λ (x : Read A). x >>= (λ a q. becoming (joined a) (n a q))) e ∙ ap (λ (x : Read B). noting l (becoming (joined a) x)) f

  pub by_stops : (ts : List Token) (a : A) (q : List Token) (l k : ℕ) → m ts ≡ Found a q l → n a q ≡ Stopped k → by_value m n ts ≡ Stopped (min l k)
  by_stops ts a q l k e f = ap (λ (x : Read A). x >>= (λ a q. becoming (joined a) (n a q))) e ∙ ap (λ (x : Read B). noting l (becoming (joined a) x)) f

  pub by_first : (ts : List Token) (k : ℕ) → m ts ≡ Stopped k → by_value m n ts ≡ Stopped k
  by_first ts k e = ap (λ (x : Read A). x >>= (λ a q. becoming (joined a) (n a q))) e

  -- the first one's reach is far enough
  pub by_far : (ts : List Token) (a : A) (q : List Token) → m ts ≡ found a q → Within (length q) (n a q) → by_value m n ts ≡ becoming (joined a) (n a q)
  by_far ts a q e w =
      ap (λ (x : Read A). x >>= (λ a q. becoming (joined a) (n a q))) e ∙ sym (noting_far (length q) (becoming (joined a) (n a q)) (within_becoming (length q) (joined a) (n a q) w))

module _ {A B : Type 0} (m : Run A) (n : Run B) where
  pub pair_found : (ts : List Token) (a : A) (q : List Token) (l : ℕ) (b : B) (r : List Token) (k : ℕ) → m ts ≡ Found a q l → n q ≡ Found b r k → in_turn m n ts ≡ Found (a, b) r (min l k)
  pair_found = by_found m (λ a. n)

  pub pair_stops : (ts : List Token) (a : A) (q : List Token) (l k : ℕ) → m ts ≡ Found a q l → n q ≡ Stopped k → in_turn m n ts ≡ Stopped (min l k)
  pair_stops = by_stops m (λ a. n)

  pub pair_first : (ts : List Token) (k : ℕ) → m ts ≡ Stopped k → in_turn m n ts ≡ Stopped k
  pair_first = by_first m (λ a. n)

  pub pair_far : (ts : List Token) (a : A) (q : List Token) → m ts ≡ found a q → Within (length q) (n q) → in_turn m n ts ≡ becoming (joined a) (n q)
  pair_far = by_far m (λ a. n)

-- what a value was made of

Made : {A B : Type 0} → (A → B) → Read A → Read B → Type 0
Made {A = A} f m (Found b r l) = (a : A) × (m ≡ Found a r l) × (f a ≡ b)
Made f m (Stopped l) = m ≡ Stopped l

made : {A B : Type 0} (f : A → B) (m : Read A) → Made f m (becoming f m)
unfolding Made
made f (Found a r l) = (a, refl, refl)
made f (Stopped l) = refl

pub made_found : {A B : Type 0} (f : A → B) (m : Read A) (b : B) (r : List Token) (l : ℕ) → becoming f m ≡ Found b r l → (a : A) × (m ≡ Found a r l) × (f a ≡ b)
unfolding Made
made_found {B = B} f m b r l e = subst (λ (x : Read B). Made f m x) e (made f m)

pub made_stops : {A B : Type 0} (f : A → B) (m : Read A) (l : ℕ) → becoming f m ≡ Stopped l → m ≡ Stopped l
unfolding Made
made_stops {B = B} f m l e = subst (λ (x : Read B). Made f m x) e (made f m)

pub made_halts : {A B : Type 0} (f : A → B) (m : Read A) (e : Halt) → Halts e (becoming f m) → Halts e m
made_halts f m e h = halts_by (becoming f m) m (made_stops f m) e h

pub remade : {A B C : Type 0} (f : A → B) (g : B → C) (h : A → C) (m : Read A) → ((a : A) → g (f a) ≡ h a) → becoming g (becoming f m) ≡ becoming h m
remade f g h (Found a r l) e = ap (λ c. Found c r l) (e a)
remade f g h (Stopped l) e = refl
