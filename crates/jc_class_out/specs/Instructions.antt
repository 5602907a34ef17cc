-- Instructions (JVMS 6.5): which of them the profile has, and what stands behind an opcode.
use Rattle.std.specs.Prelude.{ℕ, zero, suc, ◌+◌, ◌-◌, ◌*◌, ◌^◌, ◌%◌, ℤ, pos, Bool, true, false, not, ◌||◌, ◌&&◌, ◌==◌, int_lt, List, [], ◌∷◌, length, Option, Some, None, Result, Ok, Err, nat_lt, nat_le, if◌then◌else◌}
use Rattle.std.specs.Int.{w8, w16, w32, cast_signed}
use Rattle.jc_class_out.specs.declared.format.Slot.{Slot}
use Rattle.jc_class_out.specs.declared.format.Flaw.{Flaw}
use Rattle.jc_class_out.specs.declared.format.Flaw.TheVariants.{Tag, Index, Opcode}
use Rattle.jc_class_out.specs.declared.format.Kind.{Kind}
use Rattle.jc_class_out.specs.declared.format.Kind.TheVariants.{Plain, Byte, Short, ArrayOf, Load, LoadWide, LoadLong, Local, Step, Jump, Switch, Field, Method, Interface, Class, Dims, Unknown}
use Rattle.jc_class_out.specs.declared.model.Ins.{Ins}
use Rattle.jc_class_out.specs.declared.model.Loaded.{Loaded}
use Rattle.jc_class_out.specs.declared.model.Loaded.TheVariants.{Whole as LoadedWhole, Long as LoadedLong, Text as LoadedText}
use Rattle.jc_class_out.specs.declared.model.SwitchCase.{SwitchCase}
use Rattle.jc_class_out.specs.declared.model.Operand.{Operand}
use Rattle.jc_class_out.specs.declared.model.Operand.TheVariants as op
use Rattle.jc_class_out.specs.Reading.{◌>>=◌, wants, u8_at, number_at}
use Rattle.jc_class_out.specs.Descriptors.{parameter_units, or_zero}
use Rattle.jc_class_out.specs.Pool.{Known, KnownWhole, KnownLong, KnownLiteral, KnownField, KnownMethod, KnownInterface, known_of, class_named_at}

-- ---- opcodes

-- both ends are within
abbrev pub within : ℕ → ℕ → ℕ → Bool
within low high code = nat_le low code && nat_le code high

-- aconst_null, iconst, lconst
abbrev pub is_constant : ℕ → Bool
is_constant code = within 0x01 0x0a code

-- loads and stores of elements of int, long, Object, byte, char, short arrays; arraylength
abbrev pub is_element : ℕ → Bool
is_element code = within 0x2e 0x2f code || within 0x32 0x35 code || within 0x4f 0x50 code || within 0x53 0x56 code || code == 0xbe

-- pop to swap
abbrev pub is_stack : ℕ → Bool
is_stack code = within 0x57 0x5f code

-- add, sub, mul, div, rem, neg stand by fours for int, long, float, double; then shifts and bits of int and long; lcmp
abbrev pub is_arithmetic : ℕ → Bool
is_arithmetic code = (within 0x60 0x77 code && nat_lt (code % 4) 2) || within 0x78 0x83 code || code == 0x94

-- i2l, l2i, i2b, i2c, i2s
abbrev pub is_conversion : ℕ → Bool
is_conversion code = code == 0x85 || code == 0x88 || within 0x91 0x93 code

-- ireturn, lreturn, areturn, return, athrow
abbrev pub is_return : ℕ → Bool
is_return code = within 0xac 0xad code || within 0xb0 0xb1 code || code == 0xbf

-- the instructions that have no operand
abbrev pub is_plain : ℕ → Bool
is_plain code = is_constant code || is_element code || is_stack code || is_arithmetic code || is_conversion code || is_return code

-- loads and stores of int, long and reference variables
abbrev pub is_local : ℕ → Bool
is_local code = within 0x15 0x16 code || code == 0x19 || within 0x36 0x37 code || code == 0x3a

-- tests, goto, ifnull, ifnonnull
abbrev pub is_jump : ℕ → Bool
is_jump code = within 0x99 0xa7 code || within 0xc6 0xc7 code

-- new, anewarray, checkcast, instanceof
abbrev pub is_class : ℕ → Bool
is_class code = code == 0xbb || code == 0xbd || within 0xc0 0xc1 code

-- what stands behind an opcode that names something in the pool; Unknown for an opcode that the profile doesn't have
unfoldable pub member_kind : ℕ → Kind
member_kind code =
    if within 0xb2 0xb5 code then Field else
    if within 0xb6 0xb8 code then Method else
    if code == 0xb9 then Interface else
    if is_class code then Class else
    if code == 0xc5 then Dims else Unknown

-- the same of opcodes with a local or a place in the code, or else of those above
unfoldable pub branch_kind : ℕ → Kind
branch_kind code =
    if is_local code then Local else
    if code == 0x84 then Step else
    if is_jump code then Jump else
    if code == 0xab then Switch else member_kind code

-- what stands behind any opcode; 0xc4, `wide`, is none by itself
unfoldable pub kind_of : ℕ → Kind
kind_of code =
    if is_plain code then Plain else
    if code == 0x10 then Byte else
    if code == 0x11 then Short else
    if code == 0x12 then Load else
    if code == 0x13 then LoadWide else
    if code == 0x14 then LoadLong else
    if code == 0xbc then ArrayOf else branch_kind code

-- the codes of newarray: boolean, char, byte, short, int, long
abbrev pub is_array_code : ℕ → Bool
is_array_code n = within 4 5 n || within 8 11 n

-- ---- operands

-- A jump goes as many bytes forward from its instruction as its number says, in two's complement.
abbrev pub target : ℕ → ℕ → ℕ
target at by = if nat_lt by 32768 then (at + by) % 2 ^ 32 else (at + by + (2 ^ 32 - 65536)) % 2 ^ 32

-- the same by a number of four bytes, as lookupswitch has them
abbrev pub wide_target : ℕ → ℕ → ℕ
wide_target at by = (at + by) % 2 ^ 32

-- the constant that ldc or ldc_w loads, an int or a string; any other entry is the given flaw
abbrev pub loaded_by : Option Known → Flaw → Result Loaded Flaw
loaded_by (Some (KnownWhole n)) e = Ok (LoadedWhole n)
loaded_by (Some (KnownLiteral t)) e = Ok (LoadedText t)
loaded_by _ e = Err e

-- the constant of ldc2_w, which has to be a long; the profile has no doubles
abbrev pub loaded_long_by : Option Known → Flaw → Result Loaded Flaw
loaded_long_by (Some (KnownLong n)) e = Ok (LoadedLong n)
loaded_long_by _ e = Err e

-- the member that an entry of the right sort names; any other entry is the given flaw
abbrev pub field_by : Option Known → Flaw → Result Operand Flaw
field_by (Some (KnownField c n d)) e = Ok (op.Member c n d)
field_by _ e = Err e

abbrev pub method_by : Option Known → Flaw → Result Operand Flaw
method_by (Some (KnownMethod c n d)) e = Ok (op.Member c n d)
method_by _ e = Err e

-- with the units of the parameters
abbrev pub interface_by : Option Known → Flaw → Result (Operand × ℕ) Flaw
interface_by (Some (KnownInterface c n d)) e = Ok (op.Member c n d, or_zero (parameter_units d))
interface_by _ e = Err e

-- the operands that are indices into the pool: of one byte for ldc, and of two for all others; the flaw is at the index
unfoldable pub load_op : List Slot → List ℕ → Result (Operand × List ℕ) Flaw
load_op pool bytes = do
  i ← u8_at bytes
  l ← loaded_by (known_of pool i.0) (Index (length bytes))
  Ok (op.Load l, i.1)

unfoldable pub load_wide_op : List Slot → List ℕ → Result (Operand × List ℕ) Flaw
load_wide_op pool bytes = do
  i ← number_at w16 bytes
  l ← loaded_by (known_of pool i.0) (Index (length bytes))
  Ok (op.Load l, i.1)

unfoldable pub load_long_op : List Slot → List ℕ → Result (Operand × List ℕ) Flaw
load_long_op pool bytes = do
  i ← number_at w16 bytes
  l ← loaded_long_by (known_of pool i.0) (Index (length bytes))
  Ok (op.Load l, i.1)

unfoldable pub field_op : List Slot → List ℕ → Result (Operand × List ℕ) Flaw
field_op pool bytes = do
  i ← number_at w16 bytes
  o ← field_by (known_of pool i.0) (Index (length bytes))
  Ok (o, i.1)

unfoldable pub method_op : List Slot → List ℕ → Result (Operand × List ℕ) Flaw
method_op pool bytes = do
  i ← number_at w16 bytes
  o ← method_by (known_of pool i.0) (Index (length bytes))
  Ok (o, i.1)

-- behind the index the units of the arguments, the object among them, and a zero
unfoldable pub interface_op : List Slot → List ℕ → Result (Operand × List ℕ) Flaw
interface_op pool bytes = do
  i ← number_at w16 bytes
  o ← interface_by (known_of pool i.0) (Index (length bytes))
  count ← u8_at i.1
  _ ← wants (count.0 == o.1 + 1) (length i.1)
  zeros ← u8_at count.1
  _ ← wants (zeros.0 == 0) (length count.1)
  Ok (o.0, zeros.1)

-- the name of a class, and behind it, for multianewarray, the number of dimensions, which isn't 0
unfoldable pub class_op : List Slot → List ℕ → Result (Operand × List ℕ) Flaw
class_op pool bytes = do
  c ← class_named_at pool bytes
  Ok (op.Class c.0, c.1)

unfoldable pub dims_op : List Slot → List ℕ → Result (Operand × List ℕ) Flaw
dims_op pool bytes = do
  c ← class_named_at pool bytes
  n ← u8_at c.1
  _ ← wants (not (n.0 == 0)) (length c.1)
  Ok (op.Dims c.0 n.0, n.1)

-- the numbers of bipush and sipush, which have a sign, and the type of newarray; the flaw of the latter is at its byte
unfoldable pub byte_op : List ℕ → Result (Operand × List ℕ) Flaw
byte_op bytes = u8_at bytes >>= λ n. Ok (op.Number (cast_signed w8 n.0), n.1)

unfoldable pub short_op : List ℕ → Result (Operand × List ℕ) Flaw
short_op bytes = number_at w16 bytes >>= λ n. Ok (op.Number (cast_signed w16 n.0), n.1)

unfoldable pub array_op : List ℕ → Result (Operand × List ℕ) Flaw
array_op bytes = u8_at bytes >>= λ n. if is_array_code n.0 then Ok (op.Number (pos n.0), n.1) else Err (Tag (length bytes))

-- the number of a local, of one byte; for iinc the number to add follows, which has a sign
unfoldable pub local_op : List ℕ → Result (Operand × List ℕ) Flaw
local_op bytes = u8_at bytes >>= λ n. Ok (op.Local n.0, n.1)

unfoldable pub step_op : List ℕ → Result (Operand × List ℕ) Flaw
step_op bytes = do
  n ← u8_at bytes
  by ← u8_at n.1
  Ok (op.Step n.0 (cast_signed w8 by.0), by.1)

-- where a jump of two bytes goes, from its instruction's place
unfoldable pub jump_op : ℕ → List ℕ → Result (Operand × List ℕ) Flaw
jump_op at bytes = number_at w16 bytes >>= λ by. Ok (op.Jump (target at by.0), by.1)

-- ---- lookupswitch

-- so many zero bytes up to the next place that four divides
abbrev pub padding : ℕ → ℕ
padding at = 3 - at % 4

-- so many zero bytes; another byte is the flaw
unfoldable pub zeros_at : ℕ → List ℕ → Result (ℕ × List ℕ) Flaw
zeros_at zero bytes = Ok (0, bytes)
zeros_at (suc n) bytes = u8_at bytes >>= λ b. wants (b.0 == 0) (length bytes) >>= λ _. zeros_at n b.1

-- the keys ascend
abbrev pub is_above : Option ℤ → ℤ → Bool
is_above None key = true
is_above (Some before) key = int_lt before key

-- a key, greater than the one before, and where its case goes; both have four bytes
unfoldable pub case_at : ℕ → Option ℤ → List ℕ → Result (SwitchCase × List ℕ) Flaw
case_at at before bytes = do
  key ← number_at w32 bytes
  _ ← wants (is_above before (cast_signed w32 key.0)) (length bytes)
  by ← number_at w32 key.1
  Ok (record { key = cast_signed w32 key.0; at = wide_target at by.0 }, by.1)

-- so many cases, each behind the one before
unfoldable pub cases_at : ℕ → ℕ → Option ℤ → List ℕ → Result (List SwitchCase × List ℕ) Flaw
cases_at zero at before bytes = Ok ([], bytes)
cases_at (suc n) at before bytes = do
  c ← case_at at before bytes
  more ← cases_at n at (Some (c.0.key)) c.1
  Ok (c.0 ∷ more.0, more.1)

-- the number of cases is signed and not negative
unfoldable pub switch_op : ℕ → List ℕ → Result (Operand × List ℕ) Flaw
switch_op at bytes = do
  z ← zeros_at (padding at) bytes
  by ← number_at w32 z.1
  n ← number_at w32 by.1
  _ ← wants (nat_lt n.0 (2 ^ 31)) (length by.1)
  cs ← cases_at n.0 at None n.1
  Ok (op.Switch (wide_target at by.0) cs.0, cs.1)

-- ---- instructions

-- the operand that an opcode wants; `left` is how many bytes are left from the opcode on, and `at` is its place in the code
unfoldable pub operand_at : List Slot → ℕ → ℕ → Kind → List ℕ → Result (Operand × List ℕ) Flaw
operand_at pool left at Plain bytes = Ok (op.Nothing, bytes)
operand_at pool left at Byte bytes = byte_op bytes
operand_at pool left at Short bytes = short_op bytes
operand_at pool left at ArrayOf bytes = array_op bytes
operand_at pool left at Load bytes = load_op pool bytes
operand_at pool left at LoadWide bytes = load_wide_op pool bytes
operand_at pool left at LoadLong bytes = load_long_op pool bytes
operand_at pool left at Local bytes = local_op bytes
operand_at pool left at Step bytes = step_op bytes
operand_at pool left at Jump bytes = jump_op at bytes
operand_at pool left at Switch bytes = switch_op at bytes
operand_at pool left at Field bytes = field_op pool bytes
operand_at pool left at Method bytes = method_op pool bytes
operand_at pool left at Interface bytes = interface_op pool bytes
operand_at pool left at Class bytes = class_op pool bytes
operand_at pool left at Dims bytes = dims_op pool bytes
operand_at pool left at Unknown bytes = Err (Opcode left)

-- behind `wide` the numbers of locals, and that of iinc, have two bytes
unfoldable pub wide_operand_at : ℕ → Kind → List ℕ → Result (Operand × List ℕ) Flaw
wide_operand_at left Local bytes = number_at w16 bytes >>= λ n. Ok (op.Local n.0, n.1)
wide_operand_at left Step bytes = number_at w16 bytes >>= λ n. number_at w16 n.1 >>= λ by. Ok (op.Step n.0 (cast_signed w16 by.0), by.1)
wide_operand_at left _ bytes = Err (Opcode left)

-- the instruction behind `wide`, from its opcode on
unfoldable pub wide_at : List ℕ → Result (Ins × List ℕ) Flaw
wide_at bytes = do
  code ← u8_at bytes
  o ← wide_operand_at (length bytes) (kind_of code.0) code.1
  Ok (record { code = code.0; wide = true; operand = o.0 }, o.1)

-- the instruction of this opcode without `wide`, from its operand on
unfoldable pub narrow_at : List Slot → ℕ → ℕ → ℕ → List ℕ → Result (Ins × List ℕ) Flaw
narrow_at pool left at code bytes = do
  o ← operand_at pool left at (kind_of code) bytes
  Ok (record { code = code; wide = false; operand = o.0 }, o.1)

-- the instruction at a place of its code
unfoldable pub ins_at : List Slot → ℕ → List ℕ → Result (Ins × List ℕ) Flaw
ins_at pool at bytes = do
  code ← u8_at bytes
  if code.0 == 0xc4 then wide_at code.1 else narrow_at pool (length bytes) at code.0 code.1

-- ---- the size of an instruction at a place

-- the bytes of the operand of this kind; lookupswitch has padding by its place, and eight bytes for each case
unfoldable pub operand_size : ℕ → Kind → Operand → ℕ
operand_size at Plain o = 0
operand_size at Byte o = 1
operand_size at Short o = 2
operand_size at ArrayOf o = 1
operand_size at Load o = 1
operand_size at LoadWide o = 2
operand_size at LoadLong o = 2
operand_size at Local o = 1
operand_size at Step o = 2
operand_size at Jump o = 2
operand_size at Switch (op.Switch otherwise cases) = padding at + 8 + 8 * length cases
operand_size at Switch _ = 0
operand_size at Field o = 2
operand_size at Method o = 2
operand_size at Interface o = 4
operand_size at Class o = 2
operand_size at Dims o = 3
operand_size at Unknown o = 0

-- behind `wide` a local has two bytes, and iinc two more
abbrev pub wide_size : Operand → ℕ
wide_size (op.Step local by) = 4
wide_size _ = 2

-- the bytes of the whole instruction, with its opcode and `wide`
abbrev pub ins_size : ℕ → Ins → ℕ
ins_size at i = if i.wide then 2 + wide_size i.operand else 1 + operand_size at (kind_of i.code) i.operand
