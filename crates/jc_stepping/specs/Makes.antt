-- Whether a step makes an object, an array, a string or a frame (JVMS 2.4, 2.6): nothing else takes memory.
use Rattle.std.specs.Prelude.{ℕ, Bool, true, false, ◌+◌, ◌&&◌, nat_le, ℤ, pos, negsuc, List, [], ◌∷◌, is_some, option_and_then, slice_get, if◌then◌else◌}
use Rattle.std.specs.declared.option.Option.{Option}
use Rattle.std.specs.declared.option.Option.TheVariants.{Some, None}
use Rattle.jc_class_out.specs.declared.model.ClassModel.{ClassModel}
use Rattle.jc_heap.specs.Signatures.{selected_as}
use Rattle.jc_heap.specs.Strings.{string_place}
use Rattle.jc_jvm.specs.Calls.{arguments_of, native_at, selecting_class}
use Rattle.jc_jvm.specs.Frames.{frame_of}
use Rattle.jc_jvm.specs.Objects.{Act_in, lengths_on, naturals}
use Rattle.jc_jvm.specs.Stacked.{Stacked, units_in}
use Rattle.jc_jvm.specs.Table.{given_back}
use Rattle.jc_jvm.specs.Worlds.{state_of_class}
use Rattle.jc_jvm.specs.declared.frame.Frame.{Frame}
use Rattle.jc_jvm.specs.declared.frame.Waiting.{Waiting}
use Rattle.jc_jvm.specs.declared.frame.Waiting.TheVariants.{Initialising}
use Rattle.jc_jvm.specs.declared.value.Shape.{Shape}
use Rattle.jc_jvm.specs.declared.value.Value.{Value}
use Rattle.jc_jvm.specs.declared.value.Value.TheVariants.{Whole, Address, NullValue}
use Rattle.jc_jvm.specs.declared.world.Fault.TheVariants.{NegativeArraySize, NullPointer}
use Rattle.jc_jvm.specs.declared.world.Native.{Native}
use Rattle.jc_jvm.specs.declared.world.Native.TheVariants as native
use Rattle.jc_jvm.specs.declared.world.World.{World}
use Rattle.jc_rows.specs.declared.row.Row.{Row}
use Rattle.jc_rows.specs.declared.row.Row.TheVariants as row
use Rattle.jc_stepping.specs.InPlace.{in_place}
use Rattle.jc_waiting.specs.Memory.{act_makes, fault_makes, first_makes, resumed_makes, thrown_makes}
use Rattle.jc_waiting.specs.Readying.{is_open}

-- the classes have a String that can hold a text
abbrev pub have_strings : List ClassModel → Bool
have_strings classes = is_some (string_place classes)

-- ---- throws and returns

-- athrow, and on null an exception of the machine
abbrev pub throw_makes : List ClassModel → World → Frame → List Waiting → List Value → Bool
throw_makes classes world now waiting (Address at ∷ rest) = thrown_makes classes world now waiting at
throw_makes classes world now waiting (NullValue ∷ rest) = fault_makes classes NullPointer
throw_makes classes world now waiting _ = false

-- a return from an initialiser, where it goes on with what waits for the class
abbrev pub return_makes : List ClassModel → List Waiting → Option (Option Value) → Bool
return_makes classes (Initialising c ∷ waiting) (Some None) = resumed_makes classes waiting
return_makes classes waiting given = false

-- ---- calls

-- className makes a string, of an object that is there
abbrev pub native_makes : List ClassModel → World → Native → List Value → Bool
native_makes classes world native.ClassName (Address at ∷ []) = have_strings classes && is_some (slice_get world.heap at)
native_makes classes world _ arguments = false

-- a method that is called: one that isn't native has a frame, where it has code and room for its arguments
abbrev pub method_makes : List ClassModel → World → ℕ × ℕ → List Value → Option Native → Bool
method_makes classes world target arguments (Some n) = native_makes classes world n arguments
method_makes classes world target arguments None = is_some (frame_of classes target arguments)

-- the same of the method that was found; a call without one makes nothing
abbrev pub call_makes : List ClassModel → World → List Value → Option (ℕ × ℕ) → Bool
call_makes classes world arguments (Some target) = method_makes classes world target arguments (native_at classes target)
call_makes classes world arguments None = false

-- a call on an object, by the object
abbrev pub virtual_makes : List ClassModel → Option ℕ → World → Option (List Value × List Value) → Bool
virtual_makes classes signature world (Some (Address at ∷ more, rest)) =
    call_makes classes world (Address at ∷ more) (option_and_then (selected_as classes signature) (selecting_class classes (slice_get world.heap at)))
virtual_makes classes signature world (Some (NullValue ∷ more, rest)) = fault_makes classes NullPointer
virtual_makes classes signature world _ = false

-- invokespecial and invokestatic of the method that the names mean
abbrev pub special_makes : List ClassModel → Option (ℕ × ℕ) → World → Option (List Value × List Value) → Bool
special_makes classes target world (Some (Address at ∷ more, rest)) = call_makes classes world (Address at ∷ more) target
special_makes classes target world (Some (NullValue ∷ more, rest)) = fault_makes classes NullPointer
special_makes classes target world _ = false

abbrev pub static_makes : List ClassModel → ℕ × ℕ → World → Option (List Value × List Value) → Bool
static_makes classes target world (Some arguments) = call_makes classes world arguments.0 (Some target)
static_makes classes target world None = false

-- ---- rows

-- an instruction on a class: the class has to be initialised first, or it acts
abbrev pub class_makes : List ClassModel → World → ℕ → Bool → Bool
class_makes classes world class acting = if is_open (state_of_class world class) then acting else first_makes classes world class

-- newarray and anewarray: whether the length on top isn't negative, where one is there
abbrev pub is_natural : ℤ → Bool
is_natural (pos n) = true
is_natural (negsuc n) = false

-- None where no int is on top
abbrev pub natural_on : List Value → Option Bool
natural_on (Whole n ∷ rest) = Some (is_natural n)
natural_on _ = None

-- the array, or the exception for a negative length
abbrev pub array_makes_by : List ClassModel → Option Bool → Bool
array_makes_by classes (Some true) = true
array_makes_by classes (Some false) = fault_makes classes NegativeArraySize
array_makes_by classes None = false

-- the same by the values, the length on top
abbrev pub array_makes : List ClassModel → List Value → Bool
array_makes classes values = array_makes_by classes (natural_on values)

-- multianewarray: whether none of so many lengths on top is negative, where they are there
abbrev pub naturals_among : Option (List ℤ × List Value) → Option Bool
naturals_among (Some found) = Some (is_some (naturals found.0))
naturals_among None = None

-- the number of lengths is at least 1 and at most the dimensions of the type (JVMS 6.5, multianewarray)
abbrev pub nest_makes : List ClassModel → Shape → ℕ → List Value → Bool
nest_makes classes shape dims values = nat_le 1 dims && nat_le dims shape.dims && array_makes_by classes (naturals_among (lengths_on dims [] values))

-- there is room for a reference
abbrev pub has_room : Stacked → Bool
has_room stack = nat_le (1 + units_in stack.values) stack.limit

-- the rows that are not done in place
abbrev pub row_makes : List ClassModel → World → Frame → List Waiting → Row → Bool
row_makes classes world now waiting (row.Return wanted given) = return_makes classes waiting (given_back wanted given now.stack.values)
row_makes classes world now waiting row.Throw = throw_makes classes world now waiting now.stack.values
row_makes classes world now waiting (row.CallVirtual signature sorts) = virtual_makes classes signature world (arguments_of sorts now.stack.values)
row_makes classes world now waiting (row.CallSpecial target sorts) = special_makes classes target world (arguments_of sorts now.stack.values)
row_makes classes world now waiting (row.CallStatic class method sorts) =
    class_makes classes world class (static_makes classes (class, method) world (arguments_of sorts now.stack.values))
row_makes classes world now waiting (row.LoadStatic sort class field) = first_makes classes world class
row_makes classes world now waiting (row.StoreStatic sort class field) = first_makes classes world class
row_makes classes world now waiting (row.New class) = class_makes classes world class (has_room now.stack)
row_makes classes world now waiting (row.NewArray of) = array_makes classes now.stack.values
row_makes classes world now waiting (row.NewNest shape dims) = nest_makes classes shape dims now.stack.values
row_makes classes world now waiting (row.Literal text) = have_strings classes && has_room now.stack
row_makes classes world now waiting _ = false

-- what is done in place makes at most an exception
abbrev pub makes_by : List ClassModel → Bool → Option Act_in → Bool
makes_by classes otherwise (Some done) = act_makes classes done.1
makes_by classes otherwise None = otherwise

-- the step of a row
abbrev pub row_step_makes : List ClassModel → World → ℕ → Frame → List Waiting → Row → Bool
row_step_makes classes world next now waiting row = makes_by classes (row_makes classes world now waiting row) (in_place classes world next now row)
