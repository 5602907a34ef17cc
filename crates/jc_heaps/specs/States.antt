-- What reads and changes the state of a running program.
use Rattle.std.specs.Prelude.{ℕ, List, Option, Some, None, slice_get, slice_set}
use Rattle.jc_running.specs.declared.value.Value.{Value}
use Rattle.jc_running.specs.declared.seen.Shown.{Shown}
use Rattle.jc_heaps.specs.declared.state.Object.{Object}
use Rattle.jc_heaps.specs.declared.state.State.{State}
use Rattle.jc_running.specs.Outcomes.{Out, Val, Thrown, Exited, Going, Wrong, Run, give, wrong}

-- what the run has shown up to a state
abbrev pub shown_of : {K F R : Type 0} → State K F R → Shown
shown_of s = s.shown

-- the value that is there; where none is, the program is none that was checked
abbrev pub some_or_wrong : {S A : Type 0} → Option A → Run S A
some_or_wrong None = wrong
some_or_wrong (Some a) = give a

-- a part of the state; where there is no such part, the program is none that was checked
abbrev pub look : {S A : Type 0} → (S → Option A) → Run S A
look f u s = some_or_wrong (f s) u s

-- a change of the state that shows nothing
abbrev pub change : {S : Type 0} → (S → S) → Run S (Unit {0})
change f u s = Val tt u (f s)

-- a variable of the running method by its number, and its change
abbrev pub local : {K F R : Type 0} → ℕ → Run (State K F R) Value
local n = look (λ s. slice_get s.locals n)

abbrev pub set_local : {K F R : Type 0} → ℕ → Value → Run (State K F R) (Unit {0})
set_local n v = change (λ s. record s { locals = slice_set s.locals n v })

-- what an address stands for
abbrev pub object_at : {K F R : Type 0} → ℕ → Run (State K F R) (Object K)
object_at a = look (λ s. slice_get s.heap a)

-- an object with another value at a place; a place that it doesn't have changes nothing
abbrev pub with_part : {K : Type 0} → Object K → ℕ → Value → Object K
with_part o n v = record o { parts = slice_set o.parts n v }

-- .. in the heap; an address that stands for nothing changes nothing
abbrev pub set_part_in : {K : Type 0} → List (Object K) → ℕ → ℕ → Value → Option (Object K) → List (Object K)
set_part_in heap a n v (Some o) = slice_set heap a (with_part o n v)
set_part_in heap a n v None = heap

-- a field or an element of what an address stands for
abbrev pub set_part : {K F R : Type 0} → ℕ → ℕ → Value → Run (State K F R) (Unit {0})
set_part a n v = change (λ s. record s { heap = set_part_in s.heap a n v (slice_get s.heap a) })

-- what an object keeps changes as a function of it says; an address that stands for nothing changes nothing
abbrev pub set_kept_in : {K : Type 0} → List (Object K) → ℕ → (K → K) → Option (Object K) → List (Object K)
set_kept_in heap a f (Some o) = slice_set heap a (record o { kept = f o.kept })
set_kept_in heap a f None = heap

abbrev pub set_kept : {K F R : Type 0} → ℕ → (K → K) → Run (State K F R) (Unit {0})
set_kept a f = change (λ s. record s { heap = set_kept_in s.heap a f (slice_get s.heap a) })

-- with other variables and another frame, and then with the former ones again, however it ended
abbrev pub back_in : {K F R A : Type 0} → List Value → F → Out (State K F R) A → Out (State K F R) A
back_in locals frame (Val a u s) = Val a u (record s { locals = locals; frame = frame })
back_in locals frame (Thrown address u s) = Thrown address u (record s { locals = locals; frame = frame })
back_in locals frame (Exited code s) = Exited code s
back_in locals frame (Going s) = Going s
back_in locals frame Wrong = Wrong

-- a computation in them
abbrev pub in_frame : {K F R A : Type 0} → List Value → F → Run (State K F R) A → Run (State K F R) A
in_frame locals frame m u s = back_in s.locals s.frame (m u (record s { locals = locals; frame = frame }))
