-- Whether what follows an instruction makes an object or a frame (JVMS 2.5, 2.10, 5.5): nothing else takes memory.
use Rattle.std.specs.Prelude.{ℕ, zero, suc, Bool, false, ◌&&◌, List, [], ◌∷◌, is_some, length, slice_get, if◌then◌else◌}
use Rattle.std.specs.declared.option.Option.{Option}
use Rattle.std.specs.declared.option.Option.TheVariants.{Some, None}
use Rattle.jc_class_out.specs.declared.model.ClassModel.{ClassModel}
use Rattle.jc_jvm.specs.Classes.{initialiser_of}
use Rattle.jc_jvm.specs.Frames.{Act, Goes, Throws, Fails, frame_of}
use Rattle.jc_jvm.specs.Initialising.{first_super}
use Rattle.jc_jvm.specs.Thrown.{class_of_cell, fault_class, handler_of, is_error, is_throwable}
use Rattle.jc_jvm.specs.Worlds.{state_of_class, with_state}
use Rattle.jc_jvm.specs.declared.frame.Frame.{Frame}
use Rattle.jc_jvm.specs.declared.frame.Waiting.{Waiting}
use Rattle.jc_jvm.specs.declared.frame.Waiting.TheVariants.{Caller, Prepared, Initialising}
use Rattle.jc_jvm.specs.declared.world.ClassState.{ClassState}
use Rattle.jc_jvm.specs.declared.world.ClassState.TheVariants.{Untouched, InProgress, Failed}
use Rattle.jc_jvm.specs.declared.world.Fault.{Fault}
use Rattle.jc_jvm.specs.declared.world.Fault.TheVariants.{ExceptionInInitializer, NoClassDefFound}
use Rattle.jc_jvm.specs.declared.world.World.{World}
use Rattle.jc_waiting.specs.Onwards.{first_of}
use Rattle.jc_waiting.specs.declared.initialising.First.TheVariants as first

-- ---- exceptions

-- an exception of the machine is an object, where the classes have its class
abbrev pub fault_makes : List ClassModel → Fault → Bool
fault_makes classes fault = is_some (fault_class classes fault)

-- only an exception that an instruction throws is made here
abbrev pub act_makes : List ClassModel → Act → Bool
act_makes classes (Goes now) = false
act_makes classes (Throws fault now) = fault_makes classes fault
act_makes classes Fails = false

-- An exception on its way: where it leaves an initialiser, and is no Error, an ExceptionInInitializerError is made.
abbrev pub unwound_makes : List ClassModel → List Waiting → ℕ → Bool
unwound_makes classes [] k = false
unwound_makes classes (Caller now ∷ waiting) k = elim (handler_of classes k now) [ Some to ↦ false | None ↦ unwound_makes classes waiting k ]
unwound_makes classes (Prepared c ∷ waiting) k = unwound_makes classes waiting k
unwound_makes classes (Initialising c ∷ waiting) k = if is_error classes k then unwound_makes classes waiting k else fault_makes classes ExceptionInInitializer

-- the object at this address, thrown in a frame
abbrev pub thrown_makes : List ClassModel → World → Frame → List Waiting → ℕ → Bool
thrown_makes classes world now waiting address = elim (class_of_cell (slice_get world.heap address)) [
  | Some k ↦ is_throwable classes k && unwound_makes classes (Caller now ∷ waiting) k
  | None ↦ false
]

-- ---- the initialisation of classes

-- A class whose superclass is done: the frame of its initialiser is made, if it has one; `behind` is for what waits behind it.
abbrev pub ready_makes : List ClassModel → ℕ → Bool → Bool
ready_makes classes c behind = elim (initialiser_of classes c) [ Some m ↦ is_some (frame_of classes (c, m) []) | None ↦ behind ]

-- what waits goes on
abbrev pub resumed_makes : List ClassModel → List Waiting → Bool
resumed_makes classes [] = false
resumed_makes classes (Caller now ∷ waiting) = false
resumed_makes classes (Prepared c ∷ waiting) = ready_makes classes c (resumed_makes classes waiting)
resumed_makes classes (Initialising c ∷ waiting) = resumed_makes classes waiting

-- The initialisation of an untouched class begins, over at most so many superclasses; `behind` is for what waits behind it.
unfoldable pub initialised_makes : List ClassModel → ℕ → ℕ → World → Bool → Bool
initialised_makes classes zero c world behind = false
initialised_makes classes (suc n) c world behind = elim (first_of (with_state InProgress c world) (first_super classes c)) [
  | first.Untouched before ↦ initialised_makes classes n before (with_state InProgress c world) (ready_makes classes c behind)
  | first.Failed ↦ fault_makes classes NoClassDefFound
  | first.Nothing ↦ ready_makes classes c behind
]

-- a class that has to be initialised before an instruction acts
abbrev pub first_makes_by : List ClassModel → World → ℕ → Option ClassState → Bool
first_makes_by classes world c (Some Failed) = fault_makes classes NoClassDefFound
first_makes_by classes world c (Some Untouched) = initialised_makes classes (length classes) c world false
first_makes_by classes world c _ = false

-- the same by the state that the class is in
abbrev pub first_makes : List ClassModel → World → ℕ → Bool
first_makes classes world c = first_makes_by classes world c (state_of_class world c)
