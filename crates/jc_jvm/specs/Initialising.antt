-- The initialisation of classes (JVMS 5.5).
use Rattle.std.specs.Prelude.{ℕ, zero, suc, List, [], ◌∷◌, length, if◌then◌else◌}
use Rattle.std.specs.declared.option.Option.{Option}
use Rattle.std.specs.declared.option.Option.TheVariants.{Some, None}
use Rattle.jc_class_out.specs.declared.model.ClassModel.{ClassModel}
use Rattle.jc_jvm.specs.Classes.{super_of, class_has_flag, initialiser_of}
use Rattle.jc_jvm.specs.Frames.{frame_of}
use Rattle.jc_jvm.specs.Thrown.{State, Going, Over, fault_among}
use Rattle.jc_jvm.specs.Worlds.{state_of_class, with_state}
use Rattle.jc_jvm.specs.declared.frame.Frame.{Frame}
use Rattle.jc_jvm.specs.declared.frame.Waiting.{Waiting}
use Rattle.jc_jvm.specs.declared.frame.Waiting.TheVariants.{Caller, Prepared, Initialising}
use Rattle.jc_jvm.specs.declared.world.ClassState.TheVariants.{Untouched, InProgress, Ready, Failed}
use Rattle.jc_jvm.specs.declared.world.Ending.TheVariants.{Ended, Stuck}
use Rattle.jc_jvm.specs.declared.world.Fault.TheVariants.{NoClassDefFound}
use Rattle.jc_jvm.specs.declared.world.World.{World}

-- the frame of the class's initialiser goes on, and the class waits for it; without a frame the machine is stuck
abbrev pub initialiser_begins : List ClassModel → World → ℕ → List Waiting → Option Frame → State
initialiser_begins classes world c waiting (Some frame) = Going world frame (Initialising c ∷ waiting)
initialiser_begins classes world c waiting None = Over Stuck

-- What waits goes on, from the nearest on: a frame repeats its instruction; of a class whose superclass is done the initialiser
-- begins; a class without an initialiser, or whose initialiser is done, is ready, and what waits behind it goes on.
abbrev pub resumed : List ClassModel → World → List Waiting → State
resumed classes world [] = Over Ended
resumed classes world (Caller now ∷ waiting) = Going world now waiting
resumed classes world (Prepared c ∷ waiting) = elim (initialiser_of classes c) [
  | Some m ↦ initialiser_begins classes world c waiting (frame_of classes (c, m) [])
  | None ↦ resumed classes (with_state Ready c world) waiting
]
resumed classes world (Initialising c ∷ waiting) = resumed classes (with_state Ready c world) waiting

-- the class that has to be initialised before this one: its superclass, if it is no interface
abbrev pub first_super : List ClassModel → ℕ → Option ℕ
first_super classes c = if class_has_flag classes 0x0200 c then None else super_of classes c

-- The initialisation of a class that isn't touched yet begins: it is in progress from now on, and its superclass comes first. A
-- superclass that has failed throws. At most so many superclasses.
unfoldable pub initialised_on : List ClassModel → ℕ → ℕ → World → List Waiting → State
initialised_on classes zero c world waiting = Over Stuck
initialised_on classes (suc n) c world waiting =
    let started = with_state InProgress c world in
    let behind : List Waiting = Prepared c ∷ waiting in
    elim (first_super classes c) [
      | None ↦ resumed classes started behind
      | Some s ↦ elim (state_of_class started s) [
        | Some Untouched ↦ initialised_on classes n s started behind
        | Some Failed ↦ fault_among classes started behind NoClassDefFound
        | _ ↦ resumed classes started behind
      ]
    ]

-- a chain of superclasses has no more of them than there are classes
abbrev pub initialised : List ClassModel → ℕ → World → List Waiting → State
initialised classes c world waiting = initialised_on classes (length classes) c world waiting
