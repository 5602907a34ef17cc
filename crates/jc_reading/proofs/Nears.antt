-- Readers whose reach and rest are not before where they begin, whatever stands there, and those that take a token at least.
use Rattle.std.proofs.Common.{◌≡◌, ℕ, zero, suc, ◌<◌, ◌≤◌, Bool, true, false, cond, List, [], ◌∷◌, length, Option, Some, None, subst, arith}
use Rattle.jc_lexer.specs.declared.token.Sign.{Sign}
use Rattle.jc_lexer.specs.declared.token.Sign.TheVariants as sign_of
use Rattle.jc_lexer.specs.declared.token.Token.{Token}
use Rattle.jc_reading.specs.Kinds.{sign_code, one_of}
use Rattle.jc_reading.specs.Reading.{Read, Found, Stopped, Run, found, noting, becoming, joined, ◌>>=◌, as_new, in_turn, perhaps_from, perhaps, one_more, times, any_number, This, That, either, on_pick, picking, picks, picks_at, of_kind, at_kind, an_ident_at, picks_ident, each_behind, commas_run, first_and_more}
use Rattle.jc_reading.specs.Further.{with_room, or_else, preferring, unless, followed, by_value}
use Rattle.jc_reading.specs.Growing.{one_then, steps, growing}
use Rattle.jc_reading.specs.Reach.{Within, Near, Ahead, GoesAhead}
use Rattle.jc_reading.proofs.Steps.{Good, within_bind, within_becoming, within_noting, within_more}

pub near_as : {A B : Type 0} (f : A → B) (m : Run A) → Near m → Near (as_new f m)
near_as f m w ts = within_becoming (length ts) f (m ts) (w ts)

pub near_by_value : {A B : Type 0} (m : Run A) (n : A → Run B) → Near m → ((a : A) → Near (n a)) → Near (by_value m n)
near_by_value m n v w ts = within_bind (length ts) (m ts) (λ a q. becoming (joined a) (n a q)) (v ts) (λ a r. within_becoming (length r) (joined a) (n a r) (w a r))

pub near_turn : {A B : Type 0} (m : Run A) (n : Run B) → Near m → Near n → Near (in_turn m n)
near_turn m n v w ts = within_bind (length ts) (m ts) (λ a q. becoming (joined a) (n q)) (v ts) (λ a r. within_becoming (length r) (joined a) (n r) (w r))

within_perhaps : {A : Type 0} (ts : List Token) (m : Read A) → Within (length ts) m → Within (length ts) (perhaps_from ts m)
within_perhaps ts (Found a r l) w = w
within_perhaps ts (Stopped l) w = (w, omega arith)

pub near_perhaps : {A : Type 0} (m : Run A) → Near m → Near (perhaps m)
near_perhaps m w ts = within_perhaps ts (m ts) (w ts)

within_one : {A : Type 0} (ts : List Token) (r : Read A) (rest : List Token → Read (List A)) → Within (length ts) r → ((q : List Token) → Within (length q) (rest q)) → Within (length ts) (one_more ts r rest)
within_one ts (Found a q l) rest w f =
    within_noting l (length ts) (becoming (λ more. a ∷ more) (rest q)) (within_more (length q) (length ts) _ w.1 (within_becoming (length q) (λ more. a ∷ more) (rest q) (f q)))
within_one ts (Stopped l) rest w f = (w, omega arith)

pub near_times : {A : Type 0} (n : ℕ) (m : Run A) → Near m → Near (times n m)
unfolding times
near_times zero m w ts = (omega arith, omega arith)
near_times (suc n) m w ts = within_one ts (m ts) (times n m) (w ts) (near_times n m w)

pub near_any : {A : Type 0} (m : Run A) → Near m → Near (any_number m)
near_any m w ts = near_times (length ts) m w ts

pub within_cond : {A : Type 0} (k : ℕ) (b : Bool) (m n : Read A) → Within k m → Within k n → Within k (cond b m n)
within_cond k true m n v w = v
within_cond k false m n v w = w

pub near_either : {A B : Type 0} (codes : List ℕ) (m : Run A) (n : Run B) → Near m → Near n → Near (either codes m n)
near_either codes m n v w ts =
    within_cond (length ts) (one_of codes ts) (becoming This (m ts)) (becoming That (n ts)) (within_becoming (length ts) This (m ts) (v ts)) (within_becoming (length ts) That (n ts) (w ts))

ahead_pick : {A : Type 0} (t : Token) (ts : List Token) (o : Option A) → Ahead (t ∷ ts) (on_pick o ts)
ahead_pick t ts (Some a) = (omega arith, omega arith)
ahead_pick t ts None = omega arith

pub ahead_picking : {A : Type 0} (pick : Token → Option A) → GoesAhead (picking pick)
ahead_picking pick [] = omega arith
ahead_picking pick (t ∷ ts) = ahead_pick t ts (pick t)

within_ahead : {A : Type 0} (ts : List Token) (m : Read A) → Ahead ts m → Within (length ts) m
within_ahead ts (Found a r l) w = (w.0, omega (arith, w.1))
within_ahead ts (Stopped l) w = w

pub ahead_near : {A : Type 0} (m : Run A) → GoesAhead m → Near m
ahead_near m w ts = within_ahead ts (m ts) (w ts)

pub near_picking : {A : Type 0} (pick : Token → Option A) → Near (picking pick)
near_picking pick = ahead_near (picking pick) (ahead_picking pick)

pub near_kind : (code : ℕ) → Near (of_kind code)
near_kind code = near_picking (picks code)

pub near_place : (code : ℕ) → Near (at_kind code)
near_place code = near_picking (picks_at code)

pub near_ident : Near an_ident_at
near_ident = near_picking picks_ident

pub near_room : {A : Type 0} (h : ℕ) (m : Run A) → Near m → Near (with_room h m)
unfolding with_room
near_room zero m w ts = omega arith
near_room (suc h) m w ts = w ts

within_else : {A B : Type 0} (ts : List Token) (m : Read A) (n : Run B) → Within (length ts) m → Near n → Within (length ts) (or_else ts m n)
within_else ts (Found a r l) n v w = v
within_else ts (Stopped l) n v w = within_noting l (length ts) (becoming That (n ts)) (within_becoming (length ts) That (n ts) (w ts))

pub near_prefer : {A B : Type 0} (m : Run A) (n : Run B) → Near m → Near n → Near (preferring m n)
near_prefer m n v w ts = within_else ts (m ts) n (v ts) w

within_unless : {A T : Type 0} (closes : A → Bool) (none : T) (more : Run T) (a : A) (q : List Token) → Near more → Within (length q) (unless closes none more a q)
within_unless closes none more a q w =
    within_cond (length q) (closes a) (found (a, none) q) (becoming (joined a) (more q)) (omega arith, omega arith) (within_becoming (length q) (joined a) (more q) (w q))

pub near_followed : {A T : Type 0} (closes : A → Bool) (none : T) (m : Run A) (more : Run T) → Near m → Near more → Near (followed closes none m more)
near_followed closes none m more v w ts = within_bind (length ts) (m ts) (unless closes none more) (v ts) (λ a q. within_unless closes none more a q w)

pub within_then : {P : Type 0} (ts : List Token) (m : Read P) (rest : P → List Token → Read (List P)) → Within (length ts) m → ((p : P) (q : List Token) → Within (length q) (rest p q)) → Within (length ts) (one_then ts m rest)
within_then ts (Found p q l) rest w f =
    within_noting l (length ts) (becoming (λ more. p ∷ more) (rest p q)) (within_more (length q) (length ts) _ w.1 (within_becoming (length q) (λ more. p ∷ more) (rest p q) (f p q)))
within_then ts (Stopped l) rest w f = (w, omega arith)

pub near_steps : {V P : Type 0} (n : ℕ) (make : V → P → V) (part : V → Run P) (v : V) → ((v : V) → Near (part v)) → Near (steps n make part v)
unfolding steps
near_steps zero make part v w ts = (omega arith, omega arith)
near_steps (suc n) make part v w ts = within_then ts (part v ts) (λ p. steps n make part (make v p)) (w v ts) (λ p q. near_steps n make part (make v p) w q)

pub near_growing : {V P : Type 0} (first : Run V) (make : V → P → V) (part : V → Run P) → Near first → ((v : V) → Near (part v)) → Near (growing first make part)
near_growing first make part v w = near_by_value first (λ a ts. steps (length ts) make part a ts) v (λ a ts. near_steps (length ts) make part a w ts)

pub near_each : {A : Type 0} (s : Sign) (m : Run A) → Near m → Near (each_behind s m)
near_each s m w = near_any (in_turn (of_kind (sign_code s)) m) (near_turn (of_kind (sign_code s)) m (near_kind (sign_code s)) w)

pub near_commas : {A : Type 0} (m : Run A) → Near m → Near (commas_run m)
near_commas {A = A} m w = near_as first_and_more (in_turn m (each_behind sign_of.Comma m)) (near_turn m (each_behind sign_of.Comma m) w (near_each sign_of.Comma m w))

-- no more tokens are left
pub near_left : {A : Type 0} (m : Run A) (ts q : List Token) (a : A) (l : ℕ) → Near m → m ts ≡ Found a q l → length q ≤ length ts
near_left {A = A} m ts q a l w e = (subst (λ (r : Read A). Within (length ts) r) e (w ts)).1

-- ---- readers that take a token at least

ahead_becoming : {A B : Type 0} (ts : List Token) (f : A → B) (m : Read A) → Ahead ts m → Ahead ts (becoming f m)
ahead_becoming ts f (Found a r l) w = w
ahead_becoming ts f (Stopped l) w = w

pub ahead_as : {A B : Type 0} (f : A → B) (m : Run A) → GoesAhead m → GoesAhead (as_new f m)
ahead_as f m w ts = ahead_becoming ts f (m ts) (w ts)

ahead_noting : {B : Type 0} (ts q : List Token) (l : ℕ) (n : Read B) → length q < length ts → Within (length q) n → Ahead ts (noting l n)
ahead_noting ts q l (Found b r k) e v = (omega (arith, v.0), omega (arith, v.1, e))
ahead_noting ts q l (Stopped k) e v = omega (arith, v, e)

ahead_bind : {A B : Type 0} (ts : List Token) (m : Read A) (f : A → List Token → Read B) → Ahead ts m → ((a : A) (q : List Token) → Within (length q) (f a q)) → Ahead ts (m >>= f)
ahead_bind ts (Found a q l) f w g = ahead_noting ts q l (f a q) w.1 (g a q)
ahead_bind ts (Stopped l) f w g = w

-- where the first one takes a token
pub ahead_turn : {A B : Type 0} (m : Run A) (n : Run B) → GoesAhead m → Near n → GoesAhead (in_turn m n)
ahead_turn m n v w ts = ahead_bind ts (m ts) (λ a q. becoming (joined a) (n q)) (v ts) (λ a q. within_becoming (length q) (joined a) (n q) (w q))

-- a sign or a keyword, and what stands behind it
pub ahead_behind : {A B : Type 0} (f : (Unit {0} × A) → B) (code : ℕ) (m : Run A) → Near m → GoesAhead (as_new f (in_turn (of_kind code) m))
ahead_behind f code m w = ahead_as f (in_turn (of_kind code) m) (ahead_turn (of_kind code) m (ahead_picking (picks code)) w)

pub ahead_cond : {A : Type 0} (ts : List Token) (b : Bool) (m n : Read A) → Ahead ts m → Ahead ts n → Ahead ts (cond b m n)
ahead_cond ts true m n v w = v
ahead_cond ts false m n v w = w

pub ahead_either : {A B : Type 0} (codes : List ℕ) (m : Run A) (n : Run B) → GoesAhead m → GoesAhead n → GoesAhead (either codes m n)
ahead_either codes m n v w ts = ahead_cond ts (one_of codes ts) (becoming This (m ts)) (becoming That (n ts)) (ahead_becoming ts This (m ts) (v ts)) (ahead_becoming ts That (n ts) (w ts))

pub ahead_room : {A : Type 0} (h : ℕ) (m : Run A) → GoesAhead m → GoesAhead (with_room h m)
unfolding with_room
ahead_room zero m w ts = omega arith
ahead_room (suc h) m w ts = w ts

pub ahead_both : {A : Type 0} (ts : List Token) (m : Read A) → Within (length ts) m → Good (λ a r. length r < length ts) m → Ahead ts m
ahead_both ts (Found a r l) w g = (w.0, g)
ahead_both ts (Stopped l) w g = w
