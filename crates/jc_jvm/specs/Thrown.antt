-- Exceptions (JVMS 2.10): which handler catches one, and what is left on its way there.
use Rattle.std.specs.Prelude.{ℕ, Bool, true, false, ◌&&◌, nat_lt, nat_le, List, [], ◌∷◌, find, slice_get, option_and_then, codes, if◌then◌else◌}
use Rattle.std.specs.Option.{option_map}
use Rattle.std.specs.declared.option.Option.{Option}
use Rattle.std.specs.declared.option.Option.TheVariants.{Some, None}
use Rattle.jc_class_out.specs.declared.model.ClassModel.{ClassModel}
use Rattle.jc_class_out.specs.declared.model.CodeModel.{CodeModel}
use Rattle.jc_class_out.specs.declared.model.Handler.{Handler}
use Rattle.jc_jvm.specs.Classes.{class_named, is_class_below, code_at}
use Rattle.jc_jvm.specs.Stacked.{Stacked, pushed}
use Rattle.jc_jvm.specs.Worlds.{with_object, with_state, next_address}
use Rattle.jc_jvm.specs.declared.cells.Cell.{Cell}
use Rattle.jc_jvm.specs.declared.cells.Cell.TheVariants.{Instance}
use Rattle.jc_jvm.specs.declared.frame.Frame.{Frame}
use Rattle.jc_jvm.specs.declared.frame.Waiting.{Waiting}
use Rattle.jc_jvm.specs.declared.frame.Waiting.TheVariants.{Caller, Prepared, Initialising}
use Rattle.jc_jvm.specs.declared.value.Value.TheVariants.{Address}
use Rattle.jc_jvm.specs.declared.world.ClassState.TheVariants.{Failed}
use Rattle.jc_jvm.specs.declared.world.Ending.{Ending}
use Rattle.jc_jvm.specs.declared.world.Ending.TheVariants.{Threw, Stuck}
use Rattle.jc_jvm.specs.declared.world.Fault.{Fault}
use Rattle.jc_jvm.specs.declared.world.Fault.TheVariants as fault
use Rattle.jc_jvm.specs.declared.world.World.{World}

-- a machine that goes on has what all frames share, the frame that runs, and what waits for it from the nearest on; one that is over has its ending
pub data State : Type 0 where
  Going : (world : World) (now : Frame) (waiting : List Waiting) → State
  Over : (ending : Ending) → State

-- ---- handlers

-- a row without a class catches all; one with a name catches that class and those below, and nothing where there is no such class
abbrev pub catches : List ClassModel → ℕ → Option (List ℕ) → Bool
catches classes thrown None = true
catches classes thrown (Some name) = elim (class_named classes name) [ Some wanted ↦ is_class_below classes thrown wanted | None ↦ false ]

-- a row covers the places from its first on and before its end
abbrev pub covers : ℕ → Handler → Bool
covers at row = nat_le row.from at && nat_lt at row.to

-- where an exception of this class that comes up in a frame is handled, by the first row that covers the frame's place and catches it
abbrev pub handler_of : List ClassModel → ℕ → Frame → Option ℕ
handler_of classes thrown now =
    option_and_then (λ (code : CodeModel). option_map (λ (row : Handler). row.at) (find (λ row. covers now.at row && catches classes thrown row.class) code.handlers))
    (code_at classes now.class now.method)

-- at the handler the exception alone stands on the stack, where there is room for it
abbrev pub caught_on : ℕ → Frame → World → List Waiting → Option Stacked → State
caught_on to now world waiting (Some stack) = Going world (record now { at = to; stack = stack }) waiting
caught_on to now world waiting None = Over Stuck

-- the frame's stack is emptied first
abbrev pub caught : ℕ → ℕ → Frame → World → List Waiting → State
caught address to now world waiting = caught_on to now world waiting (pushed (record now.stack { values = [] }) (Address address))

-- ---- exceptions that the machine makes

-- the names of the classes of these exceptions
abbrev pub fault_name : Fault → List ℕ
fault_name fault.Arithmetic = codes "java/lang/ArithmeticException"
fault_name fault.ArrayIndexOutOfBounds = codes "java/lang/ArrayIndexOutOfBoundsException"
fault_name fault.ArrayStore = codes "java/lang/ArrayStoreException"
fault_name fault.ClassCast = codes "java/lang/ClassCastException"
fault_name fault.ExceptionInInitializer = codes "java/lang/ExceptionInInitializerError"
fault_name fault.NegativeArraySize = codes "java/lang/NegativeArraySizeException"
fault_name fault.NoClassDefFound = codes "java/lang/NoClassDefFoundError"
fault_name fault.NullPointer = codes "java/lang/NullPointerException"

-- the class of an exception, where the classes have it
abbrev pub fault_class : List ClassModel → Fault → Option ℕ
fault_class classes fault = class_named classes (fault_name fault)

-- the class is java/lang/Error or below it
abbrev pub is_error : List ClassModel → ℕ → Bool
is_error classes k = elim (class_named classes (codes "java/lang/Error")) [ Some error ↦ is_class_below classes k error | None ↦ false ]

-- ---- the way of an exception

-- An exception of class k at this address leaves what waits, from the nearest on, up to a frame that handles it. A class on the way
-- fails (JVMS 5.5, steps 7, 11 and 12): where its initialiser had begun and the exception is no Error, an ExceptionInInitializerError goes on.
abbrev pub unwound : List ClassModel → List Waiting → World → ℕ → ℕ → State
unwound classes [] world k address = Over (Threw k)
unwound classes (Caller now ∷ waiting) world k address = elim (handler_of classes k now) [
  | Some to ↦ caught address to now world waiting
  | None ↦ unwound classes waiting world k address
]
unwound classes (Prepared c ∷ waiting) world k address = unwound classes waiting (with_state Failed c world) k address
unwound classes (Initialising c ∷ waiting) world k address =
    if is_error classes k then unwound classes waiting (with_state Failed c world) k address else
    elim (fault_class classes fault.ExceptionInInitializer) [
      | Some wrapper ↦ unwound classes waiting (with_object classes wrapper (with_state Failed c world)) wrapper (next_address world)
      | None ↦ Over Stuck
    ]

-- an array is no exception
abbrev pub class_of_cell : Option Cell → Option ℕ
class_of_cell (Some (Instance class fields)) = Some class
class_of_cell _ = None

-- the class is java/lang/Throwable or below it
abbrev pub is_throwable : List ClassModel → ℕ → Bool
is_throwable classes k = elim (class_named classes (codes "java/lang/Throwable")) [ Some throwable ↦ is_class_below classes k throwable | None ↦ false ]

-- the object at this address is thrown, in what waits
abbrev pub thrown_among : List ClassModel → World → List Waiting → ℕ → State
thrown_among classes world waiting address = elim (class_of_cell (slice_get world.heap address)) [
  | Some k ↦ if is_throwable classes k then unwound classes waiting world k address else Over Stuck
  | None ↦ Over Stuck
]

-- it is thrown in a frame at its place (JVMS 6.5, athrow)
abbrev pub thrown : List ClassModel → World → Frame → List Waiting → ℕ → State
thrown classes world now waiting address = thrown_among classes world (Caller now ∷ waiting) address

-- the machine makes an exception, with no constructor run, and throws it
abbrev pub fault_among : List ClassModel → World → List Waiting → Fault → State
fault_among classes world waiting fault = elim (fault_class classes fault) [
  | Some k ↦ unwound classes waiting (with_object classes k world) k (next_address world)
  | None ↦ Over Stuck
]

-- the same in a frame at its place
abbrev pub fault_thrown : List ClassModel → World → Frame → List Waiting → Fault → State
fault_thrown classes world now waiting fault = fault_among classes world (Caller now ∷ waiting) fault
