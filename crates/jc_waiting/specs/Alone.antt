-- What the initialisation of a class comes to that makes nothing, and so keeps nothing in what waits.
use Rattle.std.specs.Prelude.{◌≡◌, ℕ, Bool, true, false, List, is_some, if◌then◌else◌}
use Rattle.std.specs.declared.option.Option.{Option}
use Rattle.std.specs.declared.option.Option.TheVariants.{Some, None}
use Rattle.jc_class_out.specs.declared.model.ClassModel.{ClassModel}
use Rattle.jc_class_out.specs.declared.model.CodeModel.{CodeModel}
use Rattle.jc_jvm.specs.Classes.{code_at, initialiser_of}
use Rattle.jc_jvm.specs.Initialising.{initialised_on, resumed}
use Rattle.jc_jvm.specs.Thrown.{Over, fault_class}
use Rattle.jc_jvm.specs.declared.frame.Waiting.{Waiting}
use Rattle.jc_jvm.specs.declared.world.Ending.TheVariants.{Stuck}
use Rattle.jc_jvm.specs.declared.world.Fault.TheVariants.{NoClassDefFound}
use Rattle.jc_jvm.specs.declared.world.World.{World}
use Rattle.jc_waiting.specs.Memory.{initialised_makes}
use Rattle.jc_waiting.specs.declared.alone.Uppermost.{Uppermost}
use Rattle.jc_waiting.specs.declared.alone.Uppermost.TheVariants.{Absent, Framed, Codeless}

-- an untouched class, over at most so many superclasses: each is ready, or the table allows nothing
abbrev pub InitialisedAlone : List ClassModel → ℕ → ℕ → World → Bool → World → Type 0
InitialisedAlone classes n c before true after =
    ((waiting : List Waiting) → initialised_on classes n c before waiting ≡ resumed classes after waiting) × ((behind : Bool) → initialised_makes classes n c before behind ≡ behind)
InitialisedAlone classes n c before false after = (waiting : List Waiting) → initialised_on classes n c before waiting ≡ Over Stuck

-- an initialiser, by its code
abbrev pub by_code : Option CodeModel → Uppermost
by_code (Some code) = Framed
by_code None = Codeless

-- a class's initialiser, or else that of the classes below it
abbrev pub or_below_by : List ClassModel → ℕ → Uppermost → Option ℕ → Uppermost
or_below_by classes c below (Some m) = by_code (code_at classes c m)
or_below_by classes c below None = below

-- the same by the class; `below` is what the classes below it come to
abbrev pub or_below : List ClassModel → ℕ → Uppermost → Uppermost
or_below classes c below = or_below_by classes c below (initialiser_of classes c)

-- whether all are ready where nothing comes first; None where memory is wanted
abbrev pub ended_alone : Uppermost → Option Bool
ended_alone Absent = Some true
ended_alone Framed = None
ended_alone Codeless = Some false

-- the same where a superclass has failed: an exception is made, if the classes have its class
abbrev pub refused_alone : List ClassModel → Option Bool
refused_alone classes = if is_some (fault_class classes NoClassDefFound) then None else Some false
