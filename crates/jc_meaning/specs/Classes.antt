-- The initialisation of classes and interfaces (JLS 12.4).
use Rattle.std.specs.Prelude.{ℕ, [], Option, Some, None, slice_get, slice_set, if◌then◌else◌}
use Rattle.jc_types.specs.declared.ids.ClassId.{ClassId}
use Rattle.jc_types.specs.declared.ids.MethodId.{MethodId}
use Rattle.jc_types.specs.Accessors.{is_interface}
use Rattle.jc_running.specs.declared.value.Readiness.{Readiness}
use Rattle.jc_running.specs.declared.value.Readiness.TheVariants.{Untouched, Begun, Ready as IsReady, Failed}
use Rattle.jc_running.specs.Outcomes.{give, throw, both_ways, bind, behind}
use Rattle.jc_heaps.specs.States.{look, change, object_at}
use Rattle.jc_heaps.specs.Classes.{superclass_of, is_subclass, methods_class}
use Rattle.jc_heaps.specs.Making.{raise}
use Rattle.jc_typed.specs.declared.program.TypedProgram.{TypedProgram}
use Rattle.jc_meaning.specs.Kept.{TypedRun, typed_keeping}
use Rattle.jc_meaning.specs.Programs.{initialiser_of}
use Rattle.jc_meaning.specs.Calls.{Bodies, call_static}
use Rattle.jc_meaning.specs.Steps.{Ready}

-- how far the initialisation of a class is, from now on
abbrev pub set_readiness : ClassId → Readiness → TypedRun (Unit {0})
set_readiness k state = change (λ s. record s { classes = slice_set s.classes k.0 state })

-- a superclass is made ready for use; where there is none, nothing is done
abbrev pub if_superclass : Ready → Option ClassId → TypedRun (Unit {0})
if_superclass ready None = give tt
if_superclass ready (Some k) = ready k

-- the superclass first; an interface initialises nothing above it (JLS 12.4.1)
abbrev pub superclass_first : TypedProgram → Ready → ClassId → TypedRun (Unit {0})
superclass_first P ready k = if is_interface P.table k then give tt else if_superclass ready (superclass_of P.table k)

-- the static initialiser of the class, if it has one (JLS 12.4.2, step 9)
abbrev pub run_initialiser : TypedProgram → Bodies → Option MethodId → TypedRun (Unit {0})
run_initialiser P body None = give tt
run_initialiser P body (Some m) = bind (call_static P body m [] []) (λ v. give tt)

-- an exception that isn't an Error becomes an ExceptionInInitializerError (JLS 12.4.2, step 11)
abbrev pub as_error : TypedProgram → ℕ → TypedRun (Unit {0})
as_error P a =
    bind (object_at a) (λ o.
    if is_subclass P.table (methods_class ((typed_keeping P.table).erased o.kept)) P.known.thrown.error then throw a else
    raise (typed_keeping P.table) P.table P.known.thrown.in_initialiser)

-- An initialisation: the class is marked, its superclass and then it itself is initialised. A failure of either fails the class
-- (JLS 12.4.2)
abbrev pub initialise : TypedProgram → Bodies → Ready → ClassId → TypedRun (Unit {0})
initialise P body ready k =
    behind (set_readiness k Begun)
    (both_ways (superclass_first P ready k)
    (λ _. both_ways (run_initialiser P body (initialiser_of P.table k))
    (λ _. set_readiness k IsReady)
    (λ a. behind (set_readiness k Failed) (as_error P a)))
    (λ a. behind (set_readiness k Failed) (throw a)))

-- what a use of a class does by how far its initialisation is: a class that is being initialised can be used, one that failed throws
-- a NoClassDefFoundError (JLS 12.4.2, steps 3 to 5)
abbrev pub use_class : TypedProgram → TypedRun (Unit {0}) → Readiness → TypedRun (Unit {0})
use_class P first Untouched = first
use_class P first Begun = give tt
use_class P first IsReady = give tt
use_class P first Failed = raise (typed_keeping P.table) P.table P.known.thrown.no_class

-- .. which the state says; an untouched class is initialised by `first`
abbrev pub ready_by : TypedProgram → (ClassId → TypedRun (Unit {0})) → ClassId → TypedRun (Unit {0})
ready_by P first k = bind (look (λ s. slice_get s.classes k.0)) (use_class P (first k))
