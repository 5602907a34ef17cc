-- When an instruction is type safe, and the type state behind it (instructionIsTypeSafe, JVMS 4.10.1.9); None where it isn't. What behind an
-- instruction comes only by a jump has the state that the instruction left.
use Rattle.std.specs.Prelude.{ℕ, zero, suc, ◌+◌, ◌/◌, ◌%◌, ◌==◌, Bool, true, false, not, ◌&&◌, ◌||◌, nat_lt, nat_le, List, [], ◌∷◌, reverse, ℤ, pos, take, codes, slice_get, option_and_then, if◌then◌else◌}
use Rattle.std.specs.List.{list_any}
use Rattle.std.specs.Ordering.{int_eq}
use Rattle.std.specs.Str.{bytes_eq}
use Rattle.std.specs.declared.option.Option.{Option}
use Rattle.std.specs.declared.option.Option.TheVariants.{Some, None}
use Rattle.jc_class_out.specs.Descriptors.{parameter_items, item_of_type}
use Rattle.jc_class_out.specs.Forms.{same_item}
use Rattle.jc_class_out.specs.Instructions.{is_above}
use Rattle.jc_class_out.specs.declared.model.ClassModel.{ClassModel}
use Rattle.jc_class_out.specs.declared.model.FieldModel.{FieldModel}
use Rattle.jc_class_out.specs.declared.model.Frame.{Frame}
use Rattle.jc_class_out.specs.declared.model.Ins.{Ins}
use Rattle.jc_class_out.specs.declared.model.Item.{Item}
use Rattle.jc_class_out.specs.declared.model.Item.TheVariants.{Top, Integer, Long, NullItem, UninitializedThis, Object, Uninitialized}
use Rattle.jc_class_out.specs.declared.model.Loaded.{Loaded}
use Rattle.jc_class_out.specs.declared.model.Loaded.TheVariants.{Text as LoadedText}
use Rattle.jc_class_out.specs.declared.model.MethodModel.{MethodModel}
use Rattle.jc_class_out.specs.declared.model.Operand.{Operand}
use Rattle.jc_class_out.specs.declared.model.Operand.TheVariants as op
use Rattle.jc_class_out.specs.declared.model.SwitchCase.{SwitchCase}
use Rattle.jc_opcodes.specs.Opcodes.{opcode_of}
use Rattle.jc_opcodes.specs.declared.opcode.Opcode.{Opcode}
use Rattle.jc_opcodes.specs.declared.opcode.Opcode.TheVariants as is
use Rattle.jc_jvm.specs.Table.{group_of, plain_of}
use Rattle.jc_jvm.specs.Types.{behind_parameters}
use Rattle.jc_jvm.specs.declared.groups.Element.{Element}
use Rattle.jc_jvm.specs.declared.groups.Element.TheVariants.{OfInt, OfLong, OfReference, OfByte, OfChar, OfShort}
use Rattle.jc_jvm.specs.declared.groups.Group.{Group}
use Rattle.jc_jvm.specs.declared.groups.Group.TheVariants.{Literals, ElementLoads, ElementStores, Jumps, Switches, Returns, StaticLoads, StaticStores, FieldLoads, FieldStores, VirtualCalls, SpecialCalls, StaticCalls, News, NewArrays, NewReferenceArrays, NewNests, Lengths, Throws, Casts, Tests}
use Rattle.jc_jvm.specs.declared.groups.IntConversion.{IntConversion}
use Rattle.jc_jvm.specs.declared.groups.IntConversion.TheVariants as int_to
use Rattle.jc_jvm.specs.declared.groups.LongConversion.{LongConversion}
use Rattle.jc_jvm.specs.declared.groups.LongConversion.TheVariants as long_to
use Rattle.jc_jvm.specs.declared.groups.Plain.{Plain}
use Rattle.jc_jvm.specs.declared.groups.Plain.TheVariants.{Push, Load, Store, Increment, Discard, Swap, Duplicate, CalculateInt, CalculateLong, ShiftInt, ShiftLong, DivideInt, DivideLong, ConvertInt, ConvertLong, CompareLongs, JumpByInt, JumpByInts, JumpByReferences, JumpByNull, Jump}
use Rattle.jc_jvm.specs.declared.operands.Sort.{Sort}
use Rattle.jc_jvm.specs.declared.operands.Sort.TheVariants.{WholeSort, LongSort, ReferenceSort}
use Rattle.jc_jvm.specs.declared.value.Value.{Value}
use Rattle.jc_jvm.specs.declared.value.Value.TheVariants as value
use Rattle.jc_frames_types.specs.Items.{is_assignable, is_reference, element_of}
use Rattle.jc_frames_types.specs.Names.{class_by_name, is_name_below, is_array_name, dims_of, array_of}
use Rattle.jc_frames_types.specs.States.{TypeState, with_stack, pushed, beneath_one, with_rest, taken, taken_as, popped, exchanged, duplicated, stored, substituted, goes_to}
use Rattle.jc_frames_types.specs.declared.wanted.Wanted.{Wanted}
use Rattle.jc_frames_types.specs.declared.wanted.Wanted.TheVariants.{Whole, LongPair, Reference, AnyArray, ByteArray, IntArray, LongArray, CharArray, ShortArray, ObjectArray, AnyObject, AnyThrowable}
use Rattle.jc_frames_steps.specs.Placed.{Environment, ins_at, frame_at}

-- ---- what is taken from the stack, the topmost value first, and what is put on it (4.10.1.4, validTypeTransition)

abbrev pub taken_two : List ClassModel → Wanted → Wanted → TypeState → Option TypeState
taken_two classes a b s = option_and_then (taken classes b) (taken classes a s)

abbrev pub taken_three : List ClassModel → Wanted → Wanted → Wanted → TypeState → Option TypeState
taken_three classes a b c s = option_and_then (taken classes c) (taken_two classes a b s)

abbrev pub changed : List ClassModel → Wanted → Item → TypeState → Option TypeState
changed classes a i s = option_and_then (pushed i) (taken classes a s)

abbrev pub changed_two : List ClassModel → Wanted → Wanted → Item → TypeState → Option TypeState
changed_two classes a b i s = option_and_then (pushed i) (taken_two classes a b s)

-- ---- constants and locals

-- aconst_null, iconst, lconst, bipush, sipush, ldc and ldc2_w of numbers; no constant is an address
abbrev pub constant_pushed : Value → TypeState → Option TypeState
constant_pushed (value.Whole n) s = pushed Integer s
constant_pushed (value.Long n) s = pushed Long s
constant_pushed value.NullValue s = pushed NullItem s
constant_pushed (value.Address a) s = None

abbrev pub is_integer : Item → Bool
is_integer Integer = true
is_integer _ = false

abbrev pub is_long : Item → Bool
is_long Long = true
is_long _ = false

-- int, long or reference
abbrev pub is_of : Sort → Item → Bool
is_of WholeSort i = is_integer i
is_of LongSort i = is_long i
is_of ReferenceSort i = is_reference i

-- loadIsTypeSafe: the type of the local, if it is of the instruction's sort
abbrev pub loaded_as : Sort → Option Item → TypeState → Option TypeState
loaded_as sort (Some i) s = if is_of sort i then pushed i s else None
loaded_as sort None s = None

abbrev pub loaded : Sort → ℕ → TypeState → Option TypeState
loaded sort local s = loaded_as sort (slice_get s.locals local) s

-- storeIsTypeSafe: the type on top, if it is of the instruction's sort
abbrev pub reference_stored : ℕ → List Item → TypeState → Option TypeState
reference_stored local [] s = None
reference_stored local (i ∷ rest) s = if is_reference i then stored local i (with_stack rest s) else None

abbrev pub stored_as : List ClassModel → Sort → ℕ → TypeState → Option TypeState
stored_as classes WholeSort local s = option_and_then (stored local Integer) (taken classes Whole s)
stored_as classes LongSort local s = option_and_then (stored local Long) (taken classes LongPair s)
stored_as classes ReferenceSort local s = reference_stored local s.stack s

-- iinc: the local has to be an int
abbrev pub is_whole : Option Item → Bool
is_whole (Some i) = is_integer i
is_whole None = false

abbrev pub incremented : ℕ → TypeState → Option TypeState
incremented local s = if is_whole (slice_get s.locals local) then Some s else None

-- ---- conversions

abbrev pub int_converted : List ClassModel → IntConversion → TypeState → Option TypeState
int_converted classes int_to.Negated s = changed classes Whole Integer s
int_converted classes int_to.Widened s = changed classes Whole Long s
int_converted classes int_to.ToByte s = changed classes Whole Integer s
int_converted classes int_to.ToChar s = changed classes Whole Integer s
int_converted classes int_to.ToShort s = changed classes Whole Integer s

abbrev pub long_converted : List ClassModel → LongConversion → TypeState → Option TypeState
long_converted classes long_to.LongNegated s = changed classes LongPair Long s
long_converted classes long_to.Narrowed s = changed classes LongPair Integer s

-- ---- jumps

-- targetIsTypeSafe (4.10.1.8): the place has a frame, and the state goes where it stands
abbrev pub goes_where : List ClassModel → TypeState → Option Frame → Bool
goes_where classes s (Some f) = goes_to classes f s
goes_where classes s None = false

abbrev pub reaches : Environment → ℕ → TypeState → Bool
reaches e to s = goes_where e.classes s (frame_at e.code.frames to)

abbrev pub if_reaches : Environment → ℕ → TypeState → Option TypeState
if_reaches e to s = if reaches e to s then Some s else None

abbrev pub reached : Environment → ℕ → Option TypeState → Option TypeState
reached e to s = option_and_then (if_reaches e to) s

-- ---- instructions that touch their frame alone

abbrev pub plain_typed : Environment → Plain → TypeState → Option TypeState
plain_typed e (Push v) s = constant_pushed v s
plain_typed e (Load sort local) s = loaded sort local s
plain_typed e (Store sort local) s = stored_as e.classes sort local s
plain_typed e (Increment local by) s = incremented local s
plain_typed e (Discard units) s = popped units s
plain_typed e Swap s = exchanged s
plain_typed e (Duplicate copied under) s = duplicated copied under s
plain_typed e (CalculateInt how) s = changed_two e.classes Whole Whole Integer s
plain_typed e (CalculateLong how) s = changed_two e.classes LongPair LongPair Long s
plain_typed e (ShiftInt how) s = changed_two e.classes Whole Whole Integer s
plain_typed e (ShiftLong how) s = changed_two e.classes Whole LongPair Long s
plain_typed e (DivideInt how) s = changed_two e.classes Whole Whole Integer s
plain_typed e (DivideLong how) s = changed_two e.classes LongPair LongPair Long s
plain_typed e (ConvertInt how) s = int_converted e.classes how s
plain_typed e (ConvertLong how) s = long_converted e.classes how s
plain_typed e CompareLongs s = changed_two e.classes LongPair LongPair Integer s
plain_typed e (JumpByInt test to) s = reached e to (taken e.classes Whole s)
plain_typed e (JumpByInts test to) s = reached e to (taken_two e.classes Whole Whole s)
plain_typed e (JumpByReferences other to) s = reached e to (taken_two e.classes Reference Reference s)
plain_typed e (JumpByNull other to) s = reached e to (taken e.classes Reference s)
plain_typed e (Jump to) s = if_reaches e to s

-- ---- lookupswitch

-- the keys stand in order
unfoldable pub keys_ascend : Option ℤ → List SwitchCase → Bool
keys_ascend before [] = true
keys_ascend before (c ∷ cs) = is_above before c.key && keys_ascend (Some (c.key)) cs

unfoldable pub cases_reach : Environment → TypeState → List SwitchCase → Bool
cases_reach e s [] = true
cases_reach e s (c ∷ cs) = reaches e c.at s && cases_reach e s cs

abbrev pub switch_reaches : Environment → ℕ → List SwitchCase → TypeState → Option TypeState
switch_reaches e otherwise cases s = if reaches e otherwise s && (cases_reach e s cases && keys_ascend None cases) then Some s else None

abbrev pub switched : Environment → ℕ → List SwitchCase → TypeState → Option TypeState
switched e otherwise cases s = option_and_then (switch_reaches e otherwise cases) (taken e.classes Whole s)

-- ---- elements of arrays

-- aaload gives what the array has as elements; an array of references goes where one of Object is wanted
abbrev pub element_pushed : List Item → TypeState → Option TypeState
element_pushed [] s = None
element_pushed (i ∷ rest) s = option_and_then (λ (x : Item). pushed x (with_stack rest s)) (element_of i)

abbrev pub reference_loaded : TypeState → Option TypeState
reference_loaded s = element_pushed s.stack s

abbrev pub element_loaded : List ClassModel → Element → TypeState → Option TypeState
element_loaded classes OfInt s = changed_two classes Whole IntArray Integer s
element_loaded classes OfLong s = changed_two classes Whole LongArray Long s
element_loaded classes OfReference s = option_and_then reference_loaded (taken classes Whole s)
element_loaded classes OfByte s = changed_two classes Whole ByteArray Integer s
element_loaded classes OfChar s = changed_two classes Whole CharArray Integer s
element_loaded classes OfShort s = changed_two classes Whole ShortArray Integer s

abbrev pub element_stored : List ClassModel → Element → TypeState → Option TypeState
element_stored classes OfInt s = taken_three classes Whole Whole IntArray s
element_stored classes OfLong s = taken_three classes LongPair Whole LongArray s
element_stored classes OfReference s = taken_three classes AnyObject Whole ObjectArray s
element_stored classes OfByte s = taken_three classes Whole Whole ByteArray s
element_stored classes OfChar s = taken_three classes Whole Whole CharArray s
element_stored classes OfShort s = taken_three classes Whole Whole ShortArray s

-- ---- returns

-- the descriptor of the result is that of no value
abbrev pub is_void : List ℕ → Bool
is_void result = bytes_eq result (codes "V")

-- what the method returns is of the instruction's sort, and stands on top; a constructor returns once `this` is initialised
abbrev pub returned_as : List ClassModel → Option Sort → List ℕ → TypeState → Option TypeState
returned_as classes None result s = if is_void result && not s.pending then Some s else None
returned_as classes (Some sort) result s = if not (is_void result) && is_of sort (item_of_type result) then taken_as classes (item_of_type result) s else None

abbrev pub returned : Environment → Option Sort → TypeState → Option TypeState
returned e sort s = returned_as e.classes sort (behind_parameters e.method.descriptor) s

-- ---- members of superclasses in other packages (passesProtectedCheck, 4.10.1.8)

-- how many units stand before the last `/`
unfoldable pub last_slash : ℕ → ℕ → List ℕ → ℕ
last_slash at end [] = end
last_slash at end (u ∷ us) = last_slash (at + 1) (if u == 47 then at else end) us

abbrev pub package_of : List ℕ → List ℕ
package_of name = take (last_slash 0 0 name) name

-- ACC_PROTECTED, 0x0004 (4.5, 4.6)
abbrev pub is_protected : ℕ → Bool
is_protected flags = flags / 4 % 2 == 1

abbrev pub is_protected_field : List ℕ → List ℕ → FieldModel → Bool
is_protected_field name descriptor f = is_protected f.flags && (bytes_eq f.name name && bytes_eq f.descriptor descriptor)

abbrev pub is_protected_method : List ℕ → List ℕ → MethodModel → Bool
is_protected_method name descriptor m = is_protected m.flags && (bytes_eq m.name name && bytes_eq m.descriptor descriptor)

-- the class declares such a member, protected
abbrev pub declares_protected : Option ClassModel → List ℕ → List ℕ → Bool
declares_protected None name descriptor = false
declares_protected (Some c) name descriptor = list_any (is_protected_field name descriptor) c.fields || list_any (is_protected_method name descriptor) c.methods

-- a superclass in another package declares the member, protected
abbrev pub is_guarded : Environment → List ℕ → List ℕ → List ℕ → Bool
is_guarded e class name descriptor =
    not (bytes_eq (package_of class) (package_of e.class.name))
    && (is_name_below e.classes e.class.name class && declares_protected (class_by_name e.classes class) name descriptor)

-- then it may be used of objects of this class alone
abbrev pub passes : Environment → List ℕ → List ℕ → List ℕ → Item → Bool
passes e class name descriptor target = not (is_guarded e class name descriptor) || is_assignable e.classes target (Object e.class.name)

-- ---- fields

-- the object is of the field's class; what is put into a field of this class may be put before `this` is initialised (4.10.2.4)
abbrev pub is_owner : Environment → List ℕ → List ℕ → List ℕ → Item → Bool
is_owner e class name descriptor i = is_assignable e.classes i (Object class) && passes e class name descriptor i

abbrev pub is_init : List ℕ → Bool
is_init name = bytes_eq name (codes "<init>")

abbrev pub is_this_pending : Item → Bool
is_this_pending UninitializedThis = true
is_this_pending _ = false

abbrev pub is_put_owner : Environment → List ℕ → List ℕ → List ℕ → Item → Bool
is_put_owner e class name descriptor i = is_owner e class name descriptor i || (is_this_pending i && (is_init e.method.name && bytes_eq class e.class.name))

abbrev pub owner_taken : Environment → List ℕ → List ℕ → List ℕ → TypeState → Option TypeState
owner_taken e class name descriptor s = with_rest (beneath_one (is_owner e class name descriptor) s.stack) s

abbrev pub put_owner_taken : Environment → List ℕ → List ℕ → List ℕ → TypeState → Option TypeState
put_owner_taken e class name descriptor s = with_rest (beneath_one (is_put_owner e class name descriptor) s.stack) s

abbrev pub field_loaded : Environment → List ℕ → List ℕ → List ℕ → TypeState → Option TypeState
field_loaded e class name descriptor s = option_and_then (pushed (item_of_type descriptor)) (owner_taken e class name descriptor s)

abbrev pub field_stored : Environment → List ℕ → List ℕ → List ℕ → TypeState → Option TypeState
field_stored e class name descriptor s = option_and_then (put_owner_taken e class name descriptor) (taken_as e.classes (item_of_type descriptor) s)

-- ---- calls

-- the arguments, the last one on top
unfoldable pub all_taken : List ClassModel → List Item → TypeState → Option TypeState
all_taken classes [] s = Some s
all_taken classes (i ∷ is) s = option_and_then (taken_as classes i) (all_taken classes is s)

abbrev pub arguments_taken : List ClassModel → List ℕ → TypeState → Option TypeState
arguments_taken classes descriptor s = all_taken classes (parameter_items descriptor) s

abbrev pub result_given : List ℕ → TypeState → Option TypeState
result_given result s = if is_void result then Some s else pushed (item_of_type result) s

-- neither a constructor nor a static initialiser is called by its name
abbrev pub is_special : List ℕ → Bool
is_special name = is_init name || bytes_eq name (codes "<clinit>")

-- invokestatic
abbrev pub called_statically : Environment → List ℕ → List ℕ → TypeState → Option TypeState
called_statically e name descriptor s =
    if is_special name then None else option_and_then (result_given (behind_parameters descriptor)) (arguments_taken e.classes descriptor s)

-- invokevirtual and invokeinterface
abbrev pub called_virtually : Environment → List ℕ → List ℕ → List ℕ → TypeState → Option TypeState
called_virtually e class name descriptor s =
    if is_special name then None else
    option_and_then (result_given (behind_parameters descriptor)) (option_and_then (owner_taken e class name descriptor) (arguments_taken e.classes descriptor s))

-- invokespecial of a method of this class or of one above it
abbrev pub is_own : Environment → List ℕ → Item → Bool
is_own e class i = is_assignable e.classes i (Object e.class.name) && is_assignable e.classes i (Object class)

abbrev pub own_taken : Environment → List ℕ → TypeState → Option TypeState
own_taken e class s = with_rest (beneath_one (is_own e class) s.stack) s

abbrev pub called_directly : Environment → List ℕ → List ℕ → TypeState → Option TypeState
called_directly e class descriptor s =
    if is_name_below e.classes e.class.name class then
    option_and_then (result_given (behind_parameters descriptor)) (option_and_then (own_taken e class) (arguments_taken e.classes descriptor s)) else None

-- rewrittenUninitializedType: `this` by a constructor of its class or of the superclass, another object by one of the class that `new` at its place names
abbrev pub is_name_of : List ℕ → Option (List ℕ) → Bool
is_name_of class (Some name) = bytes_eq class name
is_name_of class None = false

abbrev pub is_new : Option Opcode → Bool
is_new (Some is.New) = true
is_new _ = false

abbrev pub names_class : List ℕ → Operand → Bool
names_class class (op.Class name) = bytes_eq class name
names_class class _ = false

abbrev pub makes : List ℕ → Option Ins → Bool
makes class (Some i) = is_new (opcode_of i.code) && names_class class i.operand
makes class None = false

abbrev pub initialised_as : Environment → List ℕ → Item → Option Item
initialised_as e class UninitializedThis = if bytes_eq class e.class.name || is_name_of class e.class.superclass then Some (Object e.class.name) else None
initialised_as e class (Uninitialized at) = if makes class (ins_at e.code.ins at) then Some (Object class) else None
initialised_as e class _ = None

-- rewrittenInitializationFlags
abbrev pub settled : Item → TypeState → TypeState
settled UninitializedThis s = record s { pending = false }
settled _ s = s

-- each copy of the object is initialised then
abbrev pub initialised_to : Environment → List ℕ → List ℕ → List ℕ → Item → TypeState → Option Item → Option TypeState
initialised_to e class name descriptor i s (Some new) = if passes e class name descriptor new then Some (settled i (substituted i new s)) else None
initialised_to e class name descriptor i s None = None

abbrev pub initialised_on : Environment → List ℕ → List ℕ → List ℕ → List Item → TypeState → Option TypeState
initialised_on e class name descriptor [] s = None
initialised_on e class name descriptor (i ∷ rest) s = initialised_to e class name descriptor i (with_stack rest s) (initialised_as e class i)

abbrev pub initialised : Environment → List ℕ → List ℕ → List ℕ → TypeState → Option TypeState
initialised e class name descriptor s = initialised_on e class name descriptor s.stack s

-- invokespecial of a constructor
abbrev pub constructed : Environment → List ℕ → List ℕ → List ℕ → TypeState → Option TypeState
constructed e class name descriptor s =
    if is_void (behind_parameters descriptor) then option_and_then (initialised e class name descriptor) (arguments_taken e.classes descriptor s) else None

abbrev pub called_specially : Environment → List ℕ → List ℕ → List ℕ → TypeState → Option TypeState
called_specially e class name descriptor s =
    if is_init name then constructed e class name descriptor s else
    if is_special name then None else called_directly e class descriptor s

-- ---- members

abbrev pub member_typed : Environment → Group → List ℕ → List ℕ → List ℕ → TypeState → Option TypeState
member_typed e StaticLoads class name descriptor s = pushed (item_of_type descriptor) s
member_typed e StaticStores class name descriptor s = taken_as e.classes (item_of_type descriptor) s
member_typed e FieldLoads class name descriptor s = field_loaded e class name descriptor s
member_typed e FieldStores class name descriptor s = field_stored e class name descriptor s
member_typed e VirtualCalls class name descriptor s = called_virtually e class name descriptor s
member_typed e SpecialCalls class name descriptor s = called_specially e class name descriptor s
member_typed e StaticCalls class name descriptor s = called_statically e name descriptor s
member_typed e _ class name descriptor s = None

-- ---- new objects and arrays, casts

-- new: no such object is on the stack, and the locals forget those that an earlier turn made
abbrev pub object_made : ℕ → List ℕ → TypeState → Option TypeState
object_made at class s =
    if is_array_name class || list_any (same_item (Uninitialized at)) (reverse s.stack) then None else
    pushed (Uninitialized at) (substituted (Uninitialized at) Top s)

-- the element type of newarray by its code
abbrev pub array_by_code : ℤ → Option (List ℕ)
array_by_code n =
    if int_eq n (pos 4) then Some (codes "[Z") else
    if int_eq n (pos 5) then Some (codes "[C") else
    if int_eq n (pos 8) then Some (codes "[B") else
    if int_eq n (pos 9) then Some (codes "[S") else
    if int_eq n (pos 10) then Some (codes "[I") else
    if int_eq n (pos 11) then Some (codes "[J") else None

abbrev pub array_pushed : List ClassModel → Option (List ℕ) → TypeState → Option TypeState
array_pushed classes (Some name) s = changed classes Whole (Object name) s
array_pushed classes None s = None

-- anewarray
abbrev pub references_made : List ClassModel → List ℕ → TypeState → Option TypeState
references_made classes class s = changed classes Whole (Object (array_of class)) s

-- so many ints
unfoldable pub lengths_taken : List ClassModel → ℕ → TypeState → Option TypeState
lengths_taken classes zero s = Some s
lengths_taken classes (suc n) s = option_and_then (lengths_taken classes n) (taken classes Whole s)

-- multianewarray: the array has at least as many dimensions as lengths are given
abbrev pub nest_made : List ClassModel → List ℕ → ℕ → TypeState → Option TypeState
nest_made classes class dims s =
    if nat_lt 0 dims && nat_le dims (dims_of class) then option_and_then (pushed (Object class)) (lengths_taken classes dims s) else None

abbrev pub class_typed : Environment → ℕ → Group → List ℕ → TypeState → Option TypeState
class_typed e at News class s = object_made at class s
class_typed e at NewReferenceArrays class s = references_made e.classes class s
class_typed e at Casts class s = changed e.classes AnyObject (Object class) s
class_typed e at Tests class s = changed e.classes AnyObject Integer s
class_typed e at _ class s = None

-- ---- every instruction, by its group and its operand

abbrev pub bare_typed : Environment → Group → TypeState → Option TypeState
bare_typed e (ElementLoads element) s = element_loaded e.classes element s
bare_typed e (ElementStores element) s = element_stored e.classes element s
bare_typed e (Returns sort) s = returned e sort s
bare_typed e Lengths s = changed e.classes AnyArray Integer s
bare_typed e Throws s = taken e.classes AnyThrowable s
bare_typed e _ s = None

abbrev pub number_typed : Environment → Group → ℤ → TypeState → Option TypeState
number_typed e NewArrays n s = array_pushed e.classes (array_by_code n) s
number_typed e _ n s = None

abbrev pub text_typed : Group → Loaded → TypeState → Option TypeState
text_typed Literals (LoadedText text) s = pushed (Object (codes "java/lang/String")) s
text_typed _ _ s = None

abbrev pub nest_typed : Environment → Group → List ℕ → ℕ → TypeState → Option TypeState
nest_typed e NewNests class dims s = nest_made e.classes class dims s
nest_typed e _ class dims s = None

abbrev pub switch_typed : Environment → Group → ℕ → List SwitchCase → TypeState → Option TypeState
switch_typed e Switches otherwise cases s = switched e otherwise cases s
switch_typed e _ otherwise cases s = None

-- an instruction that doesn't touch its frame alone
abbrev pub other_typed : Environment → ℕ → Group → Operand → TypeState → Option TypeState
other_typed e at g op.Nothing s = bare_typed e g s
other_typed e at g (op.Number n) s = number_typed e g n s
other_typed e at g (op.Load constant) s = text_typed g constant s
other_typed e at g (op.Member class name descriptor) s = member_typed e g class name descriptor s
other_typed e at g (op.Class class) s = class_typed e at g class s
other_typed e at g (op.Dims class dims) s = nest_typed e g class dims s
other_typed e at g (op.Switch otherwise cases) s = switch_typed e g otherwise cases s
other_typed e at g (op.Local local) s = None
other_typed e at g (op.Step local by) s = None
other_typed e at g (op.Jump to) s = None

abbrev pub plain_or_other : Environment → ℕ → Group → Operand → Option Plain → TypeState → Option TypeState
plain_or_other e at g operand (Some p) s = plain_typed e p s
plain_or_other e at g operand None s = other_typed e at g operand s

abbrev pub group_typed : Environment → ℕ → Group → Operand → TypeState → Option TypeState
group_typed e at g operand s = plain_or_other e at g operand (plain_of g operand) s

-- an opcode that the profile doesn't have is no instruction
abbrev pub typed_by : Environment → ℕ → Option Opcode → Operand → TypeState → Option TypeState
typed_by e at (Some code) operand s = group_typed e at (group_of code) operand s
typed_by e at None operand s = None

-- the state behind an instruction that stands at this offset, with this state before it
unfoldable pub typed : Environment → ℕ → Ins → TypeState → Option TypeState
typed e at i s = typed_by e at (opcode_of i.code) i.operand s

-- whether what stands behind an instruction comes from it, or only by a jump (afterGoto)
abbrev pub goes_on : Group → Bool
goes_on (Returns sort) = false
goes_on Jumps = false
goes_on Switches = false
goes_on Throws = false
goes_on _ = true

abbrev pub falls_by : Option Opcode → Bool
falls_by (Some code) = goes_on (group_of code)
falls_by None = false

unfoldable pub falls_through : Ins → Bool
falls_through i = falls_by (opcode_of i.code)
