-- Computations of a running program: they spend units, change a state, and end with a value or otherwise.
use Rattle.std.specs.Prelude.{◌≡◌, ℕ, ℤ, zero, suc, ◌==◌, if◌then◌else◌}
use Rattle.jc_running.specs.declared.value.Completion.{Completion}
use Rattle.jc_running.specs.declared.value.Turn.{Turn}
use Rattle.jc_running.specs.declared.value.Turn.TheVariants.{Again, Last}
use Rattle.jc_running.specs.declared.value.Completion.TheVariants.{Normal, Broke, Continued, Returned}
use Rattle.jc_running.specs.declared.seen.Shown.{Shown}
use Rattle.jc_running.specs.Shows.{AtMostOneMore}

-- How a computation ends: with a value (JLS 15.6, normal completion), with a thrown object (JLS 11), with the program's own exit,
-- or it is still going on because the units were spent. `Wrong` is the end of what no checked program does.
pub data Out (S A : Type 0) : Type 0 where
  Val : (value : A) (units : ℕ) (state : S) → Out S A
  Thrown : (address : ℕ) (units : ℕ) (state : S) → Out S A
  Exited : (code : ℤ) (state : S) → Out S A
  Going : (state : S) → Out S A
  Wrong : Out S A

-- of a number of units and a state
abbrev pub Run : Type 0 → Type 0 → Type 0
Run S A = ℕ → S → Out S A

-- ends at once and spends no unit: with a value, with a thrown object by its address, with an exit code, or as no checked program does
abbrev pub give : {S A : Type 0} → A → Run S A
give a u s = Val a u s

abbrev pub throw : {S A : Type 0} → ℕ → Run S A
throw address u s = Thrown address u s

abbrev pub exit : {S A : Type 0} → ℤ → Run S A
exit code u s = Exited code s

abbrev pub wrong : {S A : Type 0} → Run S A
wrong u s = Wrong

-- what can't be told yet, where the units are spent
abbrev pub stop : {S A : Type 0} → Run S A
stop u s = Going s

-- goes on behind a value and behind a thrown object
abbrev pub on_both : {S A B : Type 0} → Out S A → (A → Run S B) → (ℕ → Run S B) → Out S B
on_both (Val a u s) f g = f a u s
on_both (Thrown address u s) f g = g address u s
on_both (Exited code s) f g = Exited code s
on_both (Going s) f g = Going s
on_both Wrong f g = Wrong

-- one computation, and then what follows its value or what it threw
abbrev pub both_ways : {S A B : Type 0} → Run S A → (A → Run S B) → (ℕ → Run S B) → Run S B
both_ways m f g u s = on_both (m u s) f g

-- one computation and then another, which sees the first one's value
abbrev pub bind : {S A B : Type 0} → Run S A → (A → Run S B) → Run S B
bind m f = both_ways m f throw

-- one computation and then another
abbrev pub behind : {S A B : Type 0} → Run S A → Run S B → Run S B
behind m n = bind m (λ a. n)

-- a unit is spent first
abbrev pub spend : {S A : Type 0} → Run S A → Run S A
spend m zero s = Going s
spend m (suc u) s = m u s

-- what leaves a node with a value or by a throw spends a unit; a run that has exited is over
abbrev pub leave : {S A : Type 0} → Out S A → Out S A
leave o = on_both o (λ a. spend (give a)) (λ address. spend (throw address))

-- a node: a unit is spent as it is entered, and another as it is left
abbrev pub node : {S A : Type 0} → Run S A → Run S A
node m = spend (λ u s. leave (m u s))

-- the next statement runs where this one completed normally (JLS 14.2)
abbrev pub next : {S : Type 0} → Completion → Run S Completion → Run S Completion
next Normal after = after
next (Broke t) after = give (Broke t)
next (Continued t) after = give (Continued t)
next (Returned v) after = give (Returned v)

-- what a finally block completes with comes in place of what was before, unless it completes normally (JLS 14.20.2)
abbrev pub instead : {S : Type 0} → Completion → Run S Completion → Run S Completion
instead Normal before = before
instead (Broke t) before = give (Broke t)
instead (Continued t) before = give (Continued t)
instead (Returned v) before = give (Returned v)

-- the statement that a jump goes to ends normally (JLS 14.15)
abbrev pub broken : ℕ → Completion → Completion
broken own (Broke t) = if t == own then Normal else Broke t
broken own c = c

-- a further turn where one is asked for, or else the end with a completion
abbrev pub on_turn : {S I : Type 0} → Turn I → (I → Run S Completion) → Run S Completion
on_turn (Again i) more = more i
on_turn (Last c) more = give c

-- turn after turn, each of which spends a unit; k bounds their number
abbrev pub turns : {S I : Type 0} → ℕ → (I → Run S (Turn I)) → I → Run S Completion
turns zero turn i = stop
turns (suc k) turn i = spend (bind (turn i) (λ t. on_turn t (turns k turn)))

-- what an expression or a statement is where a node that shows an outcome showed `p` before its units were spent
abbrev pub OneMore : {S A : Type 0} → (S → Shown) → Shown → Out S A → Type 0
OneMore shown p (Val a u s) = shown s ≡ p
OneMore shown p (Thrown address u s) = shown s ≡ p
OneMore shown p (Exited code s) = shown s ≡ p
OneMore shown p (Going s) = AtMostOneMore p (shown s)
OneMore shown p Wrong = Unit {0}

-- what a computation that ended with one number of units does with one unit more: the same, with one unit more left over; where
-- it was going on, it goes on and shows one thing more at most, or it ends, and that is the one thing
abbrev pub WithOneUnitMore : {S A : Type 0} → (S → Shown) → Out S A → Out S A → Type 0
WithOneUnitMore shown (Val a u s) o = o ≡ Val a (suc u) s
WithOneUnitMore shown (Thrown address u s) o = o ≡ Thrown address (suc u) s
WithOneUnitMore shown (Exited code s) o = o ≡ Exited code s
WithOneUnitMore shown (Going s) o = OneMore shown (shown s) o
WithOneUnitMore shown Wrong o = o ≡ Wrong
