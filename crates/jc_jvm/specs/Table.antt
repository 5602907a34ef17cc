-- The instruction table (JVMS 6.5): what each instruction does, and one step of the machine.
use Rattle.std.specs.Prelude.{ℕ, ◌+◌, ◌==◌, Bool, true, false, not, ◌&&◌, List, [], ◌∷◌, ◌++◌, slice_get, option_and_then, ℤ, pos, negsuc, int_le, nat_le, if◌then◌else◌}
use Rattle.std.specs.Int.{w32, int_wrapping_add}
use Rattle.std.specs.Option.{option_map}
use Rattle.std.specs.declared.option.Option.{Option}
use Rattle.std.specs.declared.option.Option.TheVariants.{Some, None}
use Rattle.jc_class_out.specs.declared.model.ClassModel.{ClassModel}
use Rattle.jc_class_out.specs.declared.model.FieldModel.{FieldModel}
use Rattle.jc_class_out.specs.declared.model.MethodModel.{MethodModel}
use Rattle.jc_class_out.specs.declared.model.Ins.{Ins}
use Rattle.jc_class_out.specs.declared.model.Loaded.{Loaded}
use Rattle.jc_class_out.specs.declared.model.Loaded.TheVariants.{Whole as LoadedWhole, Long as LoadedLong, Text as LoadedText}
use Rattle.jc_class_out.specs.declared.model.Operand.{Operand}
use Rattle.jc_class_out.specs.declared.model.Operand.TheVariants as op
use Rattle.jc_class_out.specs.declared.model.SwitchCase.{SwitchCase}
use Rattle.jc_opcodes.specs.Opcodes.{opcode_of}
use Rattle.jc_opcodes.specs.declared.opcode.Opcode.{Opcode}
use Rattle.jc_opcodes.specs.declared.opcode.Opcode.TheVariants as is
use Rattle.jc_jvm.specs.Calls.{Step, Moves as MovesTo, Quiet, stuck, acts, arguments_of, sorts_of_call, called_virtually, called_specially, called_statically, special_method, null_pointer, returned}
use Rattle.jc_jvm.specs.Classes.{class_named, class_has_flag, field_of, field_at, is_static_field, slot_of, method_of, method_at, is_static_method, placed_at}
use Rattle.jc_jvm.specs.Frames.{Act, Fails, throws, pushes, leaves, with_local, local_of_sort}
use Rattle.jc_jvm.specs.Initialising.{initialised}
use Rattle.jc_jvm.specs.Objects.{Act_in, element_loaded, element_stored, array_length, array_made, arrays_made, object_made, field_pushed, field_loaded, field_stored, cast_to, truth, literal_pushed}
use Rattle.jc_jvm.specs.Plain.{is_both_one_unit, units_taken, compared, int_of_two, long_of_two, int_shifted, long_shifted, is_zero, int_quotient, long_quotient, of_int, of_long, holds, same_reference, is_null}
use Rattle.jc_jvm.specs.Stacked.{units_in}
use Rattle.jc_jvm.specs.Thrown.{State, Going, Over, fault_thrown, thrown}
use Rattle.jc_jvm.specs.Types.{is_of_sort, fits, result_sort, sort_of_descriptor, shape_named, based}
use Rattle.jc_jvm.specs.Worlds.{state_of_class, statics_at, with_static}
use Rattle.jc_jvm.specs.declared.frame.Frame.{Frame}
use Rattle.jc_jvm.specs.declared.frame.Waiting.{Waiting}
use Rattle.jc_jvm.specs.declared.groups.Comparison.{Comparison}
use Rattle.jc_jvm.specs.declared.groups.Comparison.TheVariants as compare
use Rattle.jc_jvm.specs.declared.groups.Division.{Division}
use Rattle.jc_jvm.specs.declared.groups.Division.TheVariants as division
use Rattle.jc_jvm.specs.declared.groups.Element.TheVariants.{OfInt, OfLong, OfReference, OfByte, OfChar, OfShort}
use Rattle.jc_jvm.specs.declared.groups.Group.{Group}
use Rattle.jc_jvm.specs.declared.groups.Group.TheVariants.{Alone, Numbers, Literals, Longs, Loads, Stores, Steps, ElementLoads, ElementStores, IntJumps, IntPairJumps, PairJumps, NullJumps, Jumps, Switches, Returns, StaticLoads, StaticStores, FieldLoads, FieldStores, VirtualCalls, SpecialCalls, StaticCalls, News, NewArrays, NewReferenceArrays, NewNests, Lengths, Throws, Casts, Tests}
use Rattle.jc_jvm.specs.declared.groups.IntConversion.{IntConversion}
use Rattle.jc_jvm.specs.declared.groups.IntConversion.TheVariants as int_to
use Rattle.jc_jvm.specs.declared.groups.LongConversion.{LongConversion}
use Rattle.jc_jvm.specs.declared.groups.LongConversion.TheVariants as long_to
use Rattle.jc_jvm.specs.declared.groups.Operator.{Operator}
use Rattle.jc_jvm.specs.declared.groups.Operator.TheVariants as operator
use Rattle.jc_jvm.specs.declared.groups.Plain.{Plain}
use Rattle.jc_jvm.specs.declared.groups.Plain.TheVariants.{Push, Load, Store, Increment, Discard, Swap, Duplicate, CalculateInt, CalculateLong, ShiftInt, ShiftLong, DivideInt, DivideLong, ConvertInt, ConvertLong, CompareLongs, JumpByInt, JumpByInts, JumpByReferences, JumpByNull, Jump}
use Rattle.jc_jvm.specs.declared.groups.Shift.{Shift}
use Rattle.jc_jvm.specs.declared.groups.Shift.TheVariants as shift
use Rattle.jc_jvm.specs.declared.groups.Width.{Width}
use Rattle.jc_jvm.specs.declared.groups.Width.TheVariants as some
use Rattle.jc_jvm.specs.declared.frame.Waiting.TheVariants.{Caller}
use Rattle.jc_jvm.specs.declared.operands.Sort.{Sort}
use Rattle.jc_jvm.specs.declared.operands.Sort.TheVariants.{WholeSort, LongSort, ReferenceSort}
use Rattle.jc_jvm.specs.declared.value.Base.{Base}
use Rattle.jc_jvm.specs.declared.value.Base.TheVariants as base
use Rattle.jc_jvm.specs.declared.value.Shape.{Shape}
use Rattle.jc_jvm.specs.declared.value.Value.{Value}
use Rattle.jc_jvm.specs.declared.value.Value.TheVariants.{Whole, Long, Address, NullValue}
use Rattle.jc_jvm.specs.declared.world.ClassState.{ClassState}
use Rattle.jc_jvm.specs.declared.world.ClassState.TheVariants.{Untouched, InProgress, Ready, Failed}
use Rattle.jc_jvm.specs.declared.world.Fault.TheVariants.{Arithmetic, NoClassDefFound}
use Rattle.jc_jvm.specs.declared.world.World.{World}

-- ---- what an instruction takes and gives

abbrev pub group_of : Opcode → Group
group_of is.AconstNull = Alone (Push NullValue)
group_of is.IconstM1 = Alone (Push (Whole (negsuc 0)))
group_of is.Iconst0 = Alone (Push (Whole (pos 0)))
group_of is.Iconst1 = Alone (Push (Whole (pos 1)))
group_of is.Iconst2 = Alone (Push (Whole (pos 2)))
group_of is.Iconst3 = Alone (Push (Whole (pos 3)))
group_of is.Iconst4 = Alone (Push (Whole (pos 4)))
group_of is.Iconst5 = Alone (Push (Whole (pos 5)))
group_of is.Lconst0 = Alone (Push (Long (pos 0)))
group_of is.Lconst1 = Alone (Push (Long (pos 1)))
group_of is.Bipush = Numbers
group_of is.Sipush = Numbers
group_of is.Ldc = Literals
group_of is.LdcW = Literals
group_of is.Ldc2W = Longs
group_of is.Iload = Loads WholeSort
group_of is.Lload = Loads LongSort
group_of is.Aload = Loads ReferenceSort
group_of is.Istore = Stores WholeSort
group_of is.Lstore = Stores LongSort
group_of is.Astore = Stores ReferenceSort
group_of is.Iinc = Steps
group_of is.Iaload = ElementLoads OfInt
group_of is.Laload = ElementLoads OfLong
group_of is.Aaload = ElementLoads OfReference
group_of is.Baload = ElementLoads OfByte
group_of is.Caload = ElementLoads OfChar
group_of is.Saload = ElementLoads OfShort
group_of is.Iastore = ElementStores OfInt
group_of is.Lastore = ElementStores OfLong
group_of is.Aastore = ElementStores OfReference
group_of is.Bastore = ElementStores OfByte
group_of is.Castore = ElementStores OfChar
group_of is.Sastore = ElementStores OfShort
group_of is.Pop = Alone (Discard some.OneUnit)
group_of is.Pop2 = Alone (Discard some.TwoUnits)
group_of is.Swap = Alone Swap
group_of is.Dup = Alone (Duplicate some.OneUnit some.NoUnit)
group_of is.DupX1 = Alone (Duplicate some.OneUnit some.OneUnit)
group_of is.DupX2 = Alone (Duplicate some.OneUnit some.TwoUnits)
group_of is.Dup2 = Alone (Duplicate some.TwoUnits some.NoUnit)
group_of is.Dup2X1 = Alone (Duplicate some.TwoUnits some.OneUnit)
group_of is.Dup2X2 = Alone (Duplicate some.TwoUnits some.TwoUnits)
group_of is.Iadd = Alone (CalculateInt operator.Add)
group_of is.Isub = Alone (CalculateInt operator.Subtract)
group_of is.Imul = Alone (CalculateInt operator.Multiply)
group_of is.Ishl = Alone (ShiftInt shift.Left)
group_of is.Ishr = Alone (ShiftInt shift.Right)
group_of is.Iushr = Alone (ShiftInt shift.Unsigned)
group_of is.Iand = Alone (CalculateInt operator.And)
group_of is.Ior = Alone (CalculateInt operator.Or)
group_of is.Ixor = Alone (CalculateInt operator.Xor)
group_of is.Ladd = Alone (CalculateLong operator.Add)
group_of is.Lsub = Alone (CalculateLong operator.Subtract)
group_of is.Lmul = Alone (CalculateLong operator.Multiply)
group_of is.Land = Alone (CalculateLong operator.And)
group_of is.Lor = Alone (CalculateLong operator.Or)
group_of is.Lxor = Alone (CalculateLong operator.Xor)
group_of is.Lshl = Alone (ShiftLong shift.Left)
group_of is.Lshr = Alone (ShiftLong shift.Right)
group_of is.Lushr = Alone (ShiftLong shift.Unsigned)
group_of is.Idiv = Alone (DivideInt division.Quotient)
group_of is.Irem = Alone (DivideInt division.Remainder)
group_of is.Ldiv = Alone (DivideLong division.Quotient)
group_of is.Lrem = Alone (DivideLong division.Remainder)
group_of is.Ineg = Alone (ConvertInt int_to.Negated)
group_of is.I2l = Alone (ConvertInt int_to.Widened)
group_of is.I2b = Alone (ConvertInt int_to.ToByte)
group_of is.I2c = Alone (ConvertInt int_to.ToChar)
group_of is.I2s = Alone (ConvertInt int_to.ToShort)
group_of is.Lneg = Alone (ConvertLong long_to.LongNegated)
group_of is.L2i = Alone (ConvertLong long_to.Narrowed)
group_of is.Lcmp = Alone CompareLongs
group_of is.Ifeq = IntJumps compare.Equal
group_of is.Ifne = IntJumps compare.Unequal
group_of is.Iflt = IntJumps compare.Less
group_of is.Ifge = IntJumps compare.NotLess
group_of is.Ifgt = IntJumps compare.Greater
group_of is.Ifle = IntJumps compare.NotGreater
group_of is.IfIcmpeq = IntPairJumps compare.Equal
group_of is.IfIcmpne = IntPairJumps compare.Unequal
group_of is.IfIcmplt = IntPairJumps compare.Less
group_of is.IfIcmpge = IntPairJumps compare.NotLess
group_of is.IfIcmpgt = IntPairJumps compare.Greater
group_of is.IfIcmple = IntPairJumps compare.NotGreater
group_of is.IfAcmpeq = PairJumps false
group_of is.IfAcmpne = PairJumps true
group_of is.Ifnull = NullJumps false
group_of is.Ifnonnull = NullJumps true
group_of is.Goto = Jumps
group_of is.Lookupswitch = Switches
group_of is.Ireturn = Returns (Some WholeSort)
group_of is.Lreturn = Returns (Some LongSort)
group_of is.Areturn = Returns (Some ReferenceSort)
group_of is.Return = Returns None
group_of is.Getstatic = StaticLoads
group_of is.Putstatic = StaticStores
group_of is.Getfield = FieldLoads
group_of is.Putfield = FieldStores
group_of is.Invokevirtual = VirtualCalls
group_of is.Invokeinterface = VirtualCalls
group_of is.Invokespecial = SpecialCalls
group_of is.Invokestatic = StaticCalls
group_of is.New = News
group_of is.Newarray = NewArrays
group_of is.Anewarray = NewReferenceArrays
group_of is.Multianewarray = NewNests
group_of is.Arraylength = Lengths
group_of is.Athrow = Throws
group_of is.Checkcast = Casts
group_of is.Instanceof = Tests

-- ---- instructions that touch their frame alone

-- a value that an instruction gives, on what it left
abbrev pub gives : ℕ → Frame → List Value → Option Value → Act
gives next now rest (Some v) = pushes next now rest v
gives next now rest None = Fails

-- two ints or two longs, the second operand on top, give way to one value; with values of other sorts the table allows nothing
abbrev pub int_pairs : Operator → ℕ → Frame → List Value → Act
int_pairs how next now (Whole b ∷ Whole a ∷ rest) = pushes next now rest (Whole (int_of_two how a b))
int_pairs how next now _ = Fails

-- the same of two longs
abbrev pub long_pairs : Operator → ℕ → Frame → List Value → Act
long_pairs how next now (Long b ∷ Long a ∷ rest) = pushes next now rest (Long (long_of_two how a b))
long_pairs how next now _ = Fails

-- what is shifted is beneath the int that tells how far
abbrev pub int_shifts : Shift → ℕ → Frame → List Value → Act
int_shifts how next now (Whole b ∷ Whole a ∷ rest) = pushes next now rest (Whole (int_shifted how a b))
int_shifts how next now _ = Fails

-- a long shifted by the int on top of it
abbrev pub long_shifts : Shift → ℕ → Frame → List Value → Act
long_shifts how next now (Whole b ∷ Long a ∷ rest) = pushes next now rest (Long (long_shifted how a b))
long_shifts how next now _ = Fails

-- a divisor of zero throws an ArithmeticException
abbrev pub int_quotients : Division → ℕ → Frame → List Value → Act
int_quotients how next now (Whole b ∷ Whole a ∷ rest) = if is_zero b then throws Arithmetic now else pushes next now rest (Whole (int_quotient how a b))
int_quotients how next now _ = Fails

-- the same of two longs
abbrev pub long_quotients : Division → ℕ → Frame → List Value → Act
long_quotients how next now (Long b ∷ Long a ∷ rest) = if is_zero b then throws Arithmetic now else pushes next now rest (Long (long_quotient how a b))
long_quotients how next now _ = Fails

-- the topmost value gives way to what it is changed to
abbrev pub of_ints : IntConversion → ℕ → Frame → List Value → Act
of_ints how next now (Whole n ∷ rest) = pushes next now rest (of_int how n)
of_ints how next now _ = Fails

abbrev pub of_longs : LongConversion → ℕ → Frame → List Value → Act
of_longs how next now (Long n ∷ rest) = pushes next now rest (of_long how n)
of_longs how next now _ = Fails

-- lcmp: two longs give way to an int
abbrev pub comparisons : ℕ → Frame → List Value → Act
comparisons next now (Long b ∷ Long a ∷ rest) = pushes next now rest (Whole (compared a b))
comparisons next now _ = Fails

-- the value of the local, if it is of the instruction's sort, is pushed where there is room
abbrev pub loads : Sort → ℕ → ℕ → Frame → Act
loads sort local next now = gives next now now.stack.values (local_of_sort sort (slice_get now.locals local))

-- the frame goes on with these locals; None where there is no such local
abbrev pub keeps : ℕ → Frame → List Value → Option (List (Option Value)) → Act
keeps next now rest (Some locals) = leaves next (record now { locals = locals }) rest
keeps next now rest None = Fails

-- the topmost value, if it is of the instruction's sort, is put into the local
abbrev pub stores : Sort → ℕ → ℕ → Frame → List Value → Act
stores sort local next now (v ∷ rest) = if is_of_sort sort v then keeps next now rest (with_local local v now.locals) else Fails
stores sort local next now [] = Fails

-- iinc: the local has to hold an int, which wraps
abbrev pub steps : ℕ → ℤ → ℕ → Frame → Option (Option Value) → Act
steps local by next now (Some (Some (Whole n))) = keeps next now now.stack.values (with_local local (Whole (int_wrapping_add w32 n by)) now.locals)
steps local by next now _ = Fails

-- pop and pop2
abbrev pub discards : ℕ → Frame → Option (List Value × List Value) → Act
discards next now (Some taken) = leaves next now taken.1
discards next now None = Fails

-- swap: neither value may be a long
abbrev pub swaps : ℕ → Frame → List Value → Act
swaps next now (a ∷ b ∷ rest) = if is_both_one_unit a b then leaves next now (b ∷ a ∷ rest) else Fails
swaps next now _ = Fails

-- dup and its kin: the copied values once more beneath those that stood under them, where there is room
abbrev pub copies_by : ℕ → Frame → List Value → Act
copies_by next now values = if nat_le (units_in values) now.stack.limit then leaves next now values else Fails

-- the copied values come twice, and what stood under them between the two
abbrev pub copies_under : ℕ → Frame → List Value → Option (List Value × List Value) → Act
copies_under next now copied (Some under) = copies_by next now (copied ++ (under.0 ++ (copied ++ under.1)))
copies_under next now copied None = Fails

-- the topmost units are copied; `under` is how many units beneath them the copy goes
abbrev pub copies : Width → ℕ → Frame → Option (List Value × List Value) → Act
copies under next now (Some taken) = copies_under next now taken.0 (units_taken under taken.1)
copies under next now None = Fails

-- a jump goes to its place where the test holds
abbrev pub jumps : ℕ → ℕ → Frame → List Value → Bool → Act
jumps to next now rest true = leaves to now rest
jumps to next now rest false = leaves next now rest

-- the topmost int against 0, or two ints, the second operand on top
abbrev pub int_jumps : Comparison → ℕ → ℕ → Frame → List Value → Act
int_jumps test to next now (Whole n ∷ rest) = jumps to next now rest (holds test n (pos 0))
int_jumps test to next now _ = Fails

abbrev pub int_pair_jumps : Comparison → ℕ → ℕ → Frame → List Value → Act
int_pair_jumps test to next now (Whole b ∷ Whole a ∷ rest) = jumps to next now rest (holds test a b)
int_pair_jumps test to next now _ = Fails

-- a test of references, or the other way; there is none of values that are no references
abbrev pub turned : Bool → Bool → Bool
turned true test = not test
turned false test = test

-- by a test of references; where there is none, the table allows nothing
abbrev pub reference_jumps : Bool → ℕ → ℕ → Frame → List Value → Option Bool → Act
reference_jumps other to next now rest (Some test) = jumps to next now rest (turned other test)
reference_jumps other to next now rest None = Fails

-- if_acmpeq and if_acmpne, and ifnull and ifnonnull
abbrev pub pair_jumps : Bool → ℕ → ℕ → Frame → List Value → Act
pair_jumps other to next now (b ∷ a ∷ rest) = reference_jumps other to next now rest (same_reference a b)
pair_jumps other to next now _ = Fails

abbrev pub null_jumps : Bool → ℕ → ℕ → Frame → List Value → Act
null_jumps other to next now (v ∷ rest) = reference_jumps other to next now rest (is_null v)
null_jumps other to next now [] = Fails

-- what an instruction does that touches its frame alone
abbrev pub plain_act : Plain → ℕ → Frame → Act
plain_act (Push v) next now = pushes next now now.stack.values v
plain_act (Load sort local) next now = loads sort local next now
plain_act (Store sort local) next now = stores sort local next now now.stack.values
plain_act (Increment local by) next now = steps local by next now (slice_get now.locals local)
plain_act (Discard units) next now = discards next now (units_taken units now.stack.values)
plain_act Swap next now = swaps next now now.stack.values
plain_act (Duplicate copied under) next now = copies under next now (units_taken copied now.stack.values)
plain_act (CalculateInt how) next now = int_pairs how next now now.stack.values
plain_act (CalculateLong how) next now = long_pairs how next now now.stack.values
plain_act (ShiftInt how) next now = int_shifts how next now now.stack.values
plain_act (ShiftLong how) next now = long_shifts how next now now.stack.values
plain_act (DivideInt how) next now = int_quotients how next now now.stack.values
plain_act (DivideLong how) next now = long_quotients how next now now.stack.values
plain_act (ConvertInt how) next now = of_ints how next now now.stack.values
plain_act (ConvertLong how) next now = of_longs how next now now.stack.values
plain_act CompareLongs next now = comparisons next now now.stack.values
plain_act (JumpByInt test to) next now = int_jumps test to next now now.stack.values
plain_act (JumpByInts test to) next now = int_pair_jumps test to next now now.stack.values
plain_act (JumpByReferences other to) next now = pair_jumps other to next now now.stack.values
plain_act (JumpByNull other to) next now = null_jumps other to next now now.stack.values
plain_act (Jump to) next now = leaves to now now.stack.values

-- such an instruction, by its operand and its group
abbrev pub alone_of : Group → Option Plain
alone_of (Alone plain) = Some plain
alone_of group = None

-- bipush and sipush, whose number is pushed as an int
abbrev pub with_number : Group → ℤ → Option Plain
with_number Numbers n = Some (Push (Whole n))
with_number group n = None

-- ldc of an int and ldc2_w of a long; ldc of a string isn't among them, since it touches the heap
abbrev pub with_constant : Group → Loaded → Option Plain
with_constant Literals (LoadedWhole n) = Some (Push (Whole n))
with_constant Longs (LoadedLong n) = Some (Push (Long n))
with_constant group constant = None

-- loads and stores of a local, and iinc
abbrev pub on_local : Group → ℕ → Option Plain
on_local (Loads sort) local = Some (Load sort local)
on_local (Stores sort) local = Some (Store sort local)
on_local group local = None

abbrev pub by_step : Group → ℕ → ℤ → Option Plain
by_step Steps local by = Some (Increment local by)
by_step group local by = None

-- jumps to this place, by their tests
abbrev pub jump_to : Group → ℕ → Option Plain
jump_to (IntJumps test) to = Some (JumpByInt test to)
jump_to (IntPairJumps test) to = Some (JumpByInts test to)
jump_to (PairJumps other) to = Some (JumpByReferences other to)
jump_to (NullJumps other) to = Some (JumpByNull other to)
jump_to Jumps to = Some (Jump to)
jump_to group to = None

-- None of an instruction that doesn't touch its frame alone, or whose operand isn't its own
abbrev pub plain_of : Group → Operand → Option Plain
plain_of group op.Nothing = alone_of group
plain_of group (op.Number n) = with_number group n
plain_of group (op.Load constant) = with_constant group constant
plain_of group (op.Local local) = on_local group local
plain_of group (op.Step local by) = by_step group local by
plain_of group (op.Jump to) = jump_to group to
plain_of group operand = None

-- where a switch goes for an int: to the first case of that key, or else to the place for all others
abbrev pub case_of : List SwitchCase → ℤ → ℕ → ℕ
case_of [] n otherwise = otherwise
case_of (c ∷ cs) n otherwise = if int_le c.key n && int_le n c.key then c.at else case_of cs n otherwise

-- lookupswitch takes the int on top; its cases go to places in the code
abbrev pub switches : ℕ → List SwitchCase → Frame → List Value → Act
switches otherwise cases now (Whole n ∷ rest) = leaves (case_of cases n otherwise) now rest
switches otherwise cases now _ = Fails

-- ---- instructions on classes

-- a class has to be initialised before the instruction acts (JVMS 5.5); it is repeated then
abbrev pub initialised_first : List ClassModel → World → Frame → List Waiting → Option ClassState → ℕ → Step → Step
initialised_first classes world now waiting (Some Ready) c step = step
initialised_first classes world now waiting (Some InProgress) c step = step
initialised_first classes world now waiting (Some Failed) c step = MovesTo Quiet (fault_thrown classes world now waiting NoClassDefFound)
initialised_first classes world now waiting (Some Untouched) c step = MovesTo Quiet (initialised classes c world (Caller now ∷ waiting))
initialised_first classes world now waiting None c step = stuck

-- the same by the state that the class is in
abbrev pub first_initialised : List ClassModel → World → Frame → List Waiting → ℕ → Step → Step
first_initialised classes world now waiting c step = initialised_first classes world now waiting (state_of_class world c) c step

-- the place of a field, if it is there and static
abbrev pub static_if : List ClassModel → ℕ × ℕ → Option FieldModel → Option (ℕ × ℕ)
static_if classes place (Some f) = if is_static_field f then Some place else None
static_if classes place None = None

-- the class and the number of a static field, by its names (JVMS 5.4.3.2)
abbrev pub static_field : List ClassModel → List ℕ → List ℕ → List ℕ → Option (ℕ × ℕ)
static_field classes class name descriptor = option_and_then (λ place. static_if classes place (field_at classes place)) (field_of classes class name descriptor)

-- getstatic: the field's class is initialised first, and then its value is pushed; without a field the machine is stuck
abbrev pub static_loads : List ClassModel → Sort → World → ℕ → Frame → List Waiting → Option (ℕ × ℕ) → Step
static_loads classes sort world next now waiting (Some place) =
    first_initialised classes world now waiting place.0 (acts classes waiting (world, field_pushed sort next now now.stack.values (statics_at world place)))
static_loads classes sort world next now waiting None = stuck

-- the field gets the topmost value, if that is of the field's sort
abbrev pub static_kept : Sort → World → ℕ → Frame → ℕ × ℕ → List Value → Act_in
static_kept sort world next now place (v ∷ rest) = if is_of_sort sort v then (with_static place v world, leaves next now rest) else (world, Fails)
static_kept sort world next now place [] = (world, Fails)

-- putstatic, in the same way
abbrev pub static_stores : List ClassModel → Sort → World → ℕ → Frame → List Waiting → Option (ℕ × ℕ) → Step
static_stores classes sort world next now waiting (Some place) =
    first_initialised classes world now waiting place.0 (acts classes waiting (static_kept sort world next now place now.stack.values))
static_stores classes sort world next now waiting None = stuck

-- the slot of an instance field
abbrev pub instance_slot : List ClassModel → List ℕ → List ℕ → List ℕ → Option ℕ
instance_slot classes class name descriptor = option_and_then (λ (place : ℕ × ℕ). slot_of classes name descriptor place.0) (field_of classes class name descriptor)

-- getfield and putfield by the slot in the object; without one the machine is stuck
abbrev pub field_loads : List ClassModel → Sort → World → ℕ → Frame → List Waiting → Option ℕ → Step
field_loads classes sort world next now waiting (Some slot) = acts classes waiting (world, field_loaded sort slot world next now now.stack.values)
field_loads classes sort world next now waiting None = stuck

abbrev pub field_stores : List ClassModel → Sort → World → ℕ → Frame → List Waiting → Option ℕ → Step
field_stores classes sort world next now waiting (Some slot) = acts classes waiting (field_stored sort slot world next now now.stack.values)
field_stores classes sort world next now waiting None = stuck

-- the place of a method, if it is there and static
abbrev pub static_method_if : List ClassModel → ℕ × ℕ → Option MethodModel → Option (ℕ × ℕ)
static_method_if classes place (Some m) = if is_static_method m then Some place else None
static_method_if classes place None = None

-- the class and the number of a static method, by its names, in the class or in its superclasses (JVMS 5.4.3.3)
abbrev pub static_method : List ClassModel → List ℕ → List ℕ → List ℕ → Option (ℕ × ℕ)
static_method classes class name descriptor =
    option_and_then (λ place. static_method_if classes place (method_at classes place)) (option_and_then (method_of classes name descriptor) (class_named classes class))

-- invokestatic: the method's class is initialised first, and then it is called with its arguments; without a method the machine is stuck
abbrev pub static_calls : List ClassModel → List ℕ → World → ℕ → Frame → List Waiting → Option (ℕ × ℕ) → Step
static_calls classes descriptor world next now waiting (Some target) =
    first_initialised classes world now waiting target.0 (called_statically classes target world next now waiting (arguments_of (sorts_of_call false descriptor) now.stack.values))
static_calls classes descriptor world next now waiting None = stuck

-- new of a class that is neither an interface nor abstract
abbrev pub news : List ClassModel → World → ℕ → Frame → List Waiting → Option ℕ → Step
news classes world next now waiting (Some k) =
    if class_has_flag classes 0x0600 k then stuck else first_initialised classes world now waiting k (acts classes waiting (object_made classes k world next now))
news classes world next now waiting None = stuck

-- the types of newarray, by their codes
abbrev pub type_of_code : ℤ → Option Base
type_of_code (pos n) =
    if n == 4 then Some base.Boolean else
    if n == 5 then Some base.Char else
    if n == 8 then Some base.Byte else
    if n == 9 then Some base.Short else
    if n == 10 then Some base.Int else
    if n == 11 then Some base.Long else None
type_of_code _ = None

-- newarray and anewarray by the type of their elements; without one the machine is stuck
abbrev pub new_arrays : List ClassModel → World → ℕ → Frame → List Waiting → Option Shape → Step
new_arrays classes world next now waiting (Some of) = acts classes waiting (array_made of world next now now.stack.values)
new_arrays classes world next now waiting None = stuck

-- multianewarray by the type of the array and the number of dimensions that get lengths
abbrev pub new_nests : List ClassModel → ℕ → World → ℕ → Frame → List Waiting → Option Shape → Step
new_nests classes dims world next now waiting (Some shape) = acts classes waiting (arrays_made shape dims world next now)
new_nests classes dims world next now waiting None = stuck

-- null passes before the type is looked up
abbrev pub casts : List ClassModel → World → ℕ → Frame → Option Shape → List Value → Act
casts classes world next now shape (NullValue ∷ rest) = leaves next now (NullValue ∷ rest)
casts classes world next now (Some shape) (Address at ∷ rest) = cast_to classes shape world next now at rest
casts classes world next now _ _ = Fails

-- null is of no type
abbrev pub tests : List ClassModel → World → ℕ → Frame → Option Shape → List Value → Act
tests classes world next now shape (NullValue ∷ rest) = pushes next now rest (truth false)
tests classes world next now (Some shape) (Address at ∷ rest) = pushes next now rest (truth (fits classes world.heap shape (Address at)))
tests classes world next now _ _ = Fails

-- ---- returns and throws

-- the value that a return of this sort gives: the topmost one, if it is of the sort that the method's descriptor says; `return` gives none
abbrev pub top_of_sort : Sort → List Value → Option (Option Value)
top_of_sort sort (v ∷ rest) = if is_of_sort sort v then Some (Some v) else None
top_of_sort sort [] = None

-- the return's sort has to be that of the method's result; None where it isn't, or where no such value is on top
abbrev pub given_back : Option Sort → Option Sort → List Value → Option (Option Value)
given_back None None values = Some None
given_back (Some WholeSort) (Some WholeSort) values = top_of_sort WholeSort values
given_back (Some LongSort) (Some LongSort) values = top_of_sort LongSort values
given_back (Some ReferenceSort) (Some ReferenceSort) values = top_of_sort ReferenceSort values
given_back wanted result values = None

-- the caller goes on with what is given, or the machine is stuck
abbrev pub returns_by : List ClassModel → World → List Waiting → Option (Option Value) → Step
returns_by classes world waiting (Some v) = MovesTo Quiet (returned classes world waiting v)
returns_by classes world waiting None = stuck

-- a return from a method, by the result in its descriptor
abbrev pub returns : List ClassModel → World → Frame → List Waiting → Option Sort → Option MethodModel → Step
returns classes world now waiting wanted (Some m) = returns_by classes world waiting (given_back wanted (result_sort m.descriptor) now.stack.values)
returns classes world now waiting wanted None = stuck

-- athrow throws the object on top; of null a NullPointerException (JVMS 6.5, athrow)
abbrev pub throws_top : List ClassModel → World → Frame → List Waiting → List Value → Step
throws_top classes world now waiting (Address at ∷ rest) = MovesTo Quiet (thrown classes world now waiting at)
throws_top classes world now waiting (NullValue ∷ rest) = null_pointer classes world now waiting
throws_top classes world now waiting _ = stuck

-- ---- the table

-- what the other instructions do; the table allows nothing where the operand isn't the instruction's own
abbrev pub row : List ClassModel → World → ℕ → Frame → List Waiting → Group → Operand → Step
row classes world next now waiting Literals (op.Load (LoadedText text)) = acts classes waiting (literal_pushed classes text world next now)
row classes world next now waiting (ElementLoads element) op.Nothing = acts classes waiting (world, element_loaded element world next now now.stack.values)
row classes world next now waiting (ElementStores element) op.Nothing = acts classes waiting (element_stored classes element world next now now.stack.values)
row classes world next now waiting Switches (op.Switch otherwise cases) = acts classes waiting (world, switches otherwise cases now now.stack.values)
row classes world next now waiting (Returns wanted) op.Nothing = returns classes world now waiting wanted (method_at classes (now.class, now.method))
row classes world next now waiting Throws op.Nothing = throws_top classes world now waiting now.stack.values
row classes world next now waiting StaticLoads (op.Member class name descriptor) =
    static_loads classes (sort_of_descriptor descriptor) world next now waiting (static_field classes class name descriptor)
row classes world next now waiting StaticStores (op.Member class name descriptor) =
    static_stores classes (sort_of_descriptor descriptor) world next now waiting (static_field classes class name descriptor)
row classes world next now waiting FieldLoads (op.Member class name descriptor) =
    field_loads classes (sort_of_descriptor descriptor) world next now waiting (instance_slot classes class name descriptor)
row classes world next now waiting FieldStores (op.Member class name descriptor) =
    field_stores classes (sort_of_descriptor descriptor) world next now waiting (instance_slot classes class name descriptor)
row classes world next now waiting VirtualCalls (op.Member class name descriptor) =
    called_virtually classes name descriptor world next now waiting (arguments_of (sorts_of_call true descriptor) now.stack.values)
row classes world next now waiting SpecialCalls (op.Member class name descriptor) =
    called_specially classes (special_method classes now.class class name descriptor) world next now waiting (arguments_of (sorts_of_call true descriptor) now.stack.values)
row classes world next now waiting StaticCalls (op.Member class name descriptor) =
    static_calls classes descriptor world next now waiting (static_method classes class name descriptor)
row classes world next now waiting News (op.Class name) = news classes world next now waiting (class_named classes name)
row classes world next now waiting NewArrays (op.Number n) = new_arrays classes world next now waiting (option_map based (type_of_code n))
row classes world next now waiting NewReferenceArrays (op.Class name) = new_arrays classes world next now waiting (shape_named classes name)
row classes world next now waiting NewNests (op.Dims name dims) = new_nests classes dims world next now waiting (shape_named classes name)
row classes world next now waiting Lengths op.Nothing = acts classes waiting (world, array_length world next now now.stack.values)
row classes world next now waiting Casts (op.Class name) = acts classes waiting (world, casts classes world next now (shape_named classes name) now.stack.values)
row classes world next now waiting Tests (op.Class name) = acts classes waiting (world, tests classes world next now (shape_named classes name) now.stack.values)
row classes world next now waiting group operand = stuck

-- ---- steps

-- an instruction that touches its frame alone, or else one of the other rows
abbrev pub grouped_row : List ClassModel → World → ℕ → Frame → List Waiting → Group → Operand → Option Plain → Step
grouped_row classes world next now waiting group operand (Some plain) = acts classes waiting (world, plain_act plain next now)
grouped_row classes world next now waiting group operand None = row classes world next now waiting group operand

-- the instruction of this opcode; an unknown one leaves the machine stuck
abbrev pub coded_row : List ClassModel → World → ℕ → Frame → List Waiting → Operand → Option Opcode → Step
coded_row classes world next now waiting operand (Some code) =
    grouped_row classes world next now waiting (group_of code) operand (plain_of (group_of code) operand)
coded_row classes world next now waiting operand None = stuck

-- the instruction at the frame's place, and the place behind it
abbrev pub placed_row : List ClassModel → World → Frame → List Waiting → Option (Ins × ℕ) → Step
placed_row classes world now waiting (Some placed) = coded_row classes world placed.1 now waiting (placed.0).operand (opcode_of (placed.0).code)
placed_row classes world now waiting None = stuck

-- one step; a machine that is over stays so
abbrev pub step_of : List ClassModel → State → Step
step_of classes (Going world now waiting) = placed_row classes world now waiting (placed_at classes now.class now.method now.at)
step_of classes (Over ending) = MovesTo Quiet (Over ending)
