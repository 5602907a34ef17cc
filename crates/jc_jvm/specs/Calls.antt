-- Calls and returns (JVMS 2.6, 6.5), and the native methods of the library.
use Rattle.std.specs.Prelude.{ℕ, ◌%◌, ◌^◌, ◌==◌, Bool, true, false, not, ◌&&◌, List, [], ◌∷◌, length, take, drop, reverse, slice_get, option_and_then, pos, negsuc, codes, if◌then◌else◌}
use Rattle.std.specs.Int.{w32, cast_unsigned}
use Rattle.std.specs.List.{list_any}
use Rattle.std.specs.Option.{option_map}
use Rattle.std.specs.Str.{bytes_eq}
use Rattle.std.specs.declared.option.Option.{Option}
use Rattle.std.specs.declared.option.Option.TheVariants.{Some, None}
use Rattle.jc_class_out.specs.declared.model.ClassModel.{ClassModel}
use Rattle.jc_class_out.specs.declared.model.MethodModel.{MethodModel}
use Rattle.jc_jvm.specs.Classes.{class_named, name_of, super_of, line_of, selected, method_of, method_at, is_static_method, has_flag, placed_at}
use Rattle.jc_jvm.specs.Frames.{Act, Goes, Throws, Fails, throws, pushes, leaves, with_values, frame_of}
use Rattle.jc_jvm.specs.Initialising.{resumed}
use Rattle.jc_jvm.specs.Thrown.{State, Going, Over, fault_thrown}
use Rattle.jc_jvm.specs.Types.{is_of_sort, parameter_sorts, shape_of_cell, name_of_shape}
use Rattle.jc_jvm.specs.Worlds.{with_string, string_address}
use Rattle.jc_jvm.specs.declared.cells.Cell.{Cell}
use Rattle.jc_jvm.specs.declared.cells.Cell.TheVariants.{Instance, Array}
use Rattle.jc_jvm.specs.declared.frame.Frame.{Frame}
use Rattle.jc_jvm.specs.declared.frame.Waiting.{Waiting}
use Rattle.jc_jvm.specs.declared.frame.Waiting.TheVariants.{Caller, Prepared, Initialising}
use Rattle.jc_jvm.specs.declared.operands.Sort.{Sort}
use Rattle.jc_jvm.specs.declared.operands.Sort.TheVariants.{ReferenceSort}
use Rattle.jc_jvm.specs.declared.value.Value.{Value}
use Rattle.jc_jvm.specs.declared.value.Value.TheVariants.{Whole, Address, NullValue}
use Rattle.jc_jvm.specs.declared.world.Ending.TheVariants.{Ended, Exited, Stuck}
use Rattle.jc_jvm.specs.declared.world.Fault.TheVariants.{NullPointer}
use Rattle.jc_jvm.specs.declared.world.Native.{Native}
use Rattle.jc_jvm.specs.declared.world.Native.TheVariants as native
use Rattle.jc_jvm.specs.declared.world.World.{World}

-- ---- steps

-- what is seen of a step: nothing, or a byte that goes out
pub data Shown : Type 0 where
  Quiet : Shown
  Puts : (byte : ℕ) → Shown

-- A step is a move to a state, or asks for a byte of the input and then moves; None is the input's end.
pub data Step : Type 0 where
  Moves : (shown : Shown) (after : State) → Step
  Asks : (answered : Option ℕ → State) → Step

-- the step of a machine of which the table says nothing: it is over
abbrev pub stuck : Step
stuck = Moves Quiet (Over Stuck)

-- the state after what an instruction did to its frame, in this world
abbrev pub settled : List ClassModel → World → List Waiting → Act → State
settled classes world waiting (Goes now) = Going world now waiting
settled classes world waiting (Throws fault now) = fault_thrown classes world now waiting fault
settled classes world waiting Fails = Over Stuck

-- the same as a step, which shows nothing
abbrev pub acts : List ClassModel → List Waiting → World × Act → Step
acts classes waiting done = Moves Quiet (settled classes done.0 waiting done.1)

-- ---- arguments

-- the values from the top are those of these sorts, the last one first
abbrev pub all_of_sorts : List Sort → List Value → Bool
all_of_sorts [] [] = true
all_of_sorts (s ∷ ss) (v ∷ vs) = is_of_sort s v && all_of_sorts ss vs
all_of_sorts _ _ = false

-- the arguments of a call, the first one first, and what stands beneath them
abbrev pub arguments_of : List Sort → List Value → Option (List Value × List Value)
arguments_of sorts values =
    if all_of_sorts sorts (reverse (take (length sorts) values)) then Some (reverse (take (length sorts) values), drop (length sorts) values) else None

-- the sorts of what a call takes, the object first where it has one
abbrev pub sorts_of_call : Bool → List ℕ → List Sort
sorts_of_call true descriptor = ReferenceSort ∷ parameter_sorts descriptor
sorts_of_call false descriptor = parameter_sorts descriptor

-- ---- native methods

-- a native method by its class, name and descriptor; only a method that is marked so (ACC_NATIVE) is one
abbrev pub is_native_of : List ℕ → List ℕ → List ℕ → List ℕ → MethodModel → Bool
is_native_of wanted_class wanted_name wanted_descriptor class m = bytes_eq class wanted_class && bytes_eq m.name wanted_name && bytes_eq m.descriptor wanted_descriptor

abbrev pub native_by : List ℕ → MethodModel → Option Native
native_by class m =
    if is_native_of (codes "java/lang/Object") (codes "hashCode") (codes "()I") class m then Some native.HashCode else
    if is_native_of (codes "java/lang/Object") (codes "className") (codes "()Ljava/lang/String;") class m then Some native.ClassName else
    if is_native_of (codes "java/lang/Throwable") (codes "className") (codes "()Ljava/lang/String;") class m then Some native.ClassName else
    if is_native_of (codes "java/lang/System") (codes "halt") (codes "(I)V") class m then Some native.Halt else
    if is_native_of (codes "java/lang/System") (codes "readByte") (codes "()I") class m then Some native.ReadByte else
    if is_native_of (codes "java/io/PrintStream") (codes "put") (codes "(I)V") class m then Some native.Put else None

abbrev pub native_at : List ClassModel → ℕ × ℕ → Option Native
native_at classes place = option_and_then (λ (m : MethodModel). if has_flag 0x0100 m.flags then native_by (name_of classes place.0) m else None) (method_at classes place)

-- the identity hash: the number of objects and arrays that were made before, modulo 2^31
abbrev pub identity_hash : ℕ → Value
identity_hash address = Whole (pos (address % 2 ^ 31))

-- className: a new String of the name that the type of the object or array has, where the classes have String
abbrev pub name_made : List ClassModel → World → ℕ → Frame → List Waiting → List Value → Option World → Step
name_made classes world next now waiting rest (Some made) = acts classes waiting (made, pushes next now rest (Address (string_address world)))
name_made classes world next now waiting rest None = stuck

abbrev pub named : List ClassModel → World → ℕ → Frame → List Waiting → List Value → Option Cell → Step
named classes world next now waiting rest (Some cell) = name_made classes world next now waiting rest (with_string classes (name_of_shape classes (shape_of_cell cell)) world)
named classes world next now waiting rest None = stuck

abbrev pub byte_read : Option ℕ → Value
byte_read (Some byte) = Whole (pos byte)
byte_read None = Whole (negsuc 0)

-- a native call is one step: it does its work at the call itself
abbrev pub native_call : List ClassModel → World → ℕ → Frame → List Waiting → Native → List Value → List Value → Step
native_call classes world next now waiting native.HashCode (Address at ∷ []) rest = acts classes waiting (world, pushes next now rest (identity_hash at))
native_call classes world next now waiting native.ClassName (Address at ∷ []) rest = named classes world next now waiting rest (slice_get world.heap at)
native_call classes world next now waiting native.Halt (Whole code ∷ []) rest = Moves Quiet (Over (Exited code))
native_call classes world next now waiting native.ReadByte [] rest = Asks (λ byte. settled classes world waiting (pushes next now rest (byte_read byte)))
native_call classes world next now waiting native.Put (Whole n ∷ []) rest = Moves (Puts (cast_unsigned w32 n % 256)) (settled classes world waiting (leaves next now rest))
native_call classes world next now waiting _ _ rest = stuck

-- ---- calls: the caller waits at its call, with the arguments taken from its stack

-- a frame for the method runs; where it has no code, or no room for its arguments, the machine is stuck
abbrev pub entered : World → Frame → List Waiting → List Value → Option Frame → Step
entered world now waiting rest (Some frame) = Moves Quiet (Going world frame (Caller (with_values rest now) ∷ waiting))
entered world now waiting rest None = stuck

abbrev pub called_by : List ClassModel → World → ℕ → Frame → List Waiting → ℕ × ℕ → List Value → List Value → Option Native → Step
called_by classes world next now waiting target arguments rest (Some n) = native_call classes world next now waiting n arguments rest
called_by classes world next now waiting target arguments rest None = entered world now waiting rest (frame_of classes target arguments)

-- the method of these arguments is called
abbrev pub called : List ClassModel → World → ℕ → Frame → List Waiting → List Value → List Value → Option (ℕ × ℕ) → Step
called classes world next now waiting arguments rest (Some target) = called_by classes world next now waiting target arguments rest (native_at classes target)
called classes world next now waiting arguments rest None = stuck

-- a NullPointerException comes up at the call
abbrev pub null_pointer : List ClassModel → World → Frame → List Waiting → Step
null_pointer classes world now waiting = acts classes waiting (world, throws NullPointer now)

-- the class by which a method is selected: an array has the methods of Object
abbrev pub selecting_class : List ClassModel → Option Cell → Option ℕ
selecting_class classes (Some (Instance class fields)) = Some class
selecting_class classes (Some (Array of items)) = class_named classes (codes "java/lang/Object")
selecting_class classes None = None

-- invokevirtual, invokeinterface: by the object's class
abbrev pub called_virtually : List ClassModel → List ℕ → List ℕ → World → ℕ → Frame → List Waiting → Option (List Value × List Value) → Step
called_virtually classes name descriptor world next now waiting (Some (Address at ∷ more, rest)) =
    called classes world next now waiting (Address at ∷ more) rest (option_and_then (selected classes name descriptor) (selecting_class classes (slice_get world.heap at)))
called_virtually classes name descriptor world next now waiting (Some (NullValue ∷ more, rest)) = null_pointer classes world now waiting
called_virtually classes name descriptor world next now waiting _ = stuck

-- invokespecial: the method that it names, from the named class upward; where that is a superclass of the caller's class and the method is no
-- constructor, from the superclass of the caller's class upward
abbrev pub special_class : List ClassModel → ℕ → List ℕ → ℕ → Option ℕ
special_class classes current name class =
    if not (bytes_eq name (codes "<init>")) && not (class == current) && list_any (λ (k : ℕ). k == class) (line_of classes current) then super_of classes current else Some class

-- the place of a method, if it is there and not static
abbrev pub own_method_if : ℕ × ℕ → Option MethodModel → Option (ℕ × ℕ)
own_method_if place (Some m) = if is_static_method m then None else Some place
own_method_if place None = None

-- it is no static method
abbrev pub special_method : List ClassModel → ℕ → List ℕ → List ℕ → List ℕ → Option (ℕ × ℕ)
special_method classes current class name descriptor =
    option_and_then (λ place. own_method_if place (method_at classes place))
    (option_and_then (method_of classes name descriptor) (option_and_then (special_class classes current name) (class_named classes class)))

-- the call of that method; on null a NullPointerException
abbrev pub called_specially : List ClassModel → Option (ℕ × ℕ) → World → ℕ → Frame → List Waiting → Option (List Value × List Value) → Step
called_specially classes target world next now waiting (Some (Address at ∷ more, rest)) = called classes world next now waiting (Address at ∷ more) rest target
called_specially classes target world next now waiting (Some (NullValue ∷ more, rest)) = null_pointer classes world now waiting
called_specially classes target world next now waiting _ = stuck

-- the call of a method without an object
abbrev pub called_statically : List ClassModel → ℕ × ℕ → World → ℕ → Frame → List Waiting → Option (List Value × List Value) → Step
called_statically classes target world next now waiting (Some (arguments, rest)) = called classes world next now waiting arguments rest (Some target)
called_statically classes target world next now waiting None = stuck

-- ---- returns

-- a caller goes on behind its call, with the value on its stack
abbrev pub returned_to : List ClassModel → World → Frame → List Waiting → Option Value → Option ℕ → State
returned_to classes world caller waiting (Some v) (Some next) = settled classes world waiting (pushes next caller caller.stack.values v)
returned_to classes world caller waiting None (Some next) = settled classes world waiting (leaves next caller caller.stack.values)
returned_to classes world caller waiting v None = Over Stuck

-- the place behind the instruction at which the frame stands
abbrev pub behind : List ClassModel → Frame → Option ℕ
behind classes now = option_map (λ placed. placed.1) (placed_at classes now.class now.method now.at)

-- a frame returns: nothing waits any more, or its caller goes on, or its class is initialised
abbrev pub returned : List ClassModel → World → List Waiting → Option Value → State
returned classes world [] v = Over Ended
returned classes world (Caller caller ∷ waiting) v = returned_to classes world caller waiting v (behind classes caller)
returned classes world (Prepared c ∷ waiting) v = Over Stuck
returned classes world (Initialising c ∷ waiting) None = resumed classes world (Initialising c ∷ waiting)
returned classes world (Initialising c ∷ waiting) (Some v) = Over Stuck
