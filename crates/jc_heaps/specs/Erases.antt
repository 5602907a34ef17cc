-- What erasure does to states and outcomes (JLS 4.6), and what it means that an erased computation does what a typed one does. The
-- state is kept but for the types in it: an object keeps the erasure of what it kept, and the frame and the record are dropped.
use Rattle.std.specs.Prelude.{◌≡◌, ℕ, map}
use Rattle.jc_types.specs.declared.erased.Erased.{Erased}
use Rattle.jc_running.specs.Outcomes.{Out, Val, Thrown, Exited, Going, Wrong, Run}
use Rattle.jc_heaps.specs.declared.state.Object.{Object}
use Rattle.jc_heaps.specs.declared.state.State.{State}

-- a state whose objects keep erased types, with no frame and no record
abbrev pub ErasedState : Type 0
ErasedState = State Erased (Unit {0}) (Unit {0})

-- an object keeps the erasure of what it kept, and all its fields or elements
abbrev pub erase_object : {K : Type 0} → (K → Erased) → Object K → Object Erased
erase_object erased o = record { kept = erased o.kept; parts = o.parts }

-- all objects of a state, which stay at their addresses
abbrev pub erase_state : {K F R : Type 0} → (K → Erased) → State K F R → ErasedState
erase_state erased s = record {
  locals = s.locals;
  frame = tt;
  heap = map (erase_object erased) s.heap;
  classes = s.classes;
  statics = s.statics;
  strings = s.strings;
  input = s.input;
  shown = s.shown;
  record_of = tt;
}

-- the state of an outcome; value, thrown address, exit code and units stay
abbrev pub erase_out : {K F R A : Type 0} → (K → Erased) → Out (State K F R) A → Out ErasedState A
erase_out erased (Val a u s) = Val a u (erase_state erased s)
erase_out erased (Thrown address u s) = Thrown address u (erase_state erased s)
erase_out erased (Exited code s) = Exited code (erase_state erased s)
erase_out erased (Going s) = Going (erase_state erased s)
erase_out erased Wrong = Wrong

-- The erased computation does on the erased state what the typed one does, with the same units, for every number of units
abbrev pub Erases : {K F R A : Type 0} → (K → Erased) → Run (State K F R) A → Run ErasedState A → Type 0
Erases {K} {F} {R} erased m n = (u : ℕ) (s : State K F R) → erase_out erased (m u s) ≡ n u (erase_state erased s)
