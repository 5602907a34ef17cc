-- The instructions that touch their frame alone (JVMS 6.5): constants, locals, the stack, arithmetic, conversions, jumps.
use Rattle.std.specs.Prelude.{ℕ, ◌/◌, ◌%◌, ◌^◌, ◌==◌, Bool, true, false, not, ◌&&◌, List, [], ◌∷◌, ℤ, pos, negsuc, int_lt, int_le, int_rem, if◌then◌else◌}
use Rattle.std.specs.Int.{w8, w16, w32, w64, cast_signed, cast_unsigned, int_wrapping_add, int_wrapping_sub, int_wrapping_mul, int_wrapping_div, int_wrapping_neg, int_shl, int_shr, int_bit_and, int_bit_or, int_bit_xor}
use Rattle.std.specs.Ordering.{int_eq}
use Rattle.std.specs.declared.option.Option.{Option}
use Rattle.std.specs.declared.option.Option.TheVariants.{Some, None}
use Rattle.jc_jvm.specs.declared.groups.Operator.{Operator}
use Rattle.jc_jvm.specs.declared.groups.Operator.TheVariants.{Add, Subtract, Multiply, And, Or, Xor}
use Rattle.jc_jvm.specs.declared.groups.Shift.{Shift}
use Rattle.jc_jvm.specs.declared.groups.Shift.TheVariants.{Left, Right, Unsigned}
use Rattle.jc_jvm.specs.declared.groups.Division.{Division}
use Rattle.jc_jvm.specs.declared.groups.Division.TheVariants.{Quotient, Remainder}
use Rattle.jc_jvm.specs.declared.groups.IntConversion.{IntConversion}
use Rattle.jc_jvm.specs.declared.groups.IntConversion.TheVariants.{Negated, Widened, ToByte, ToChar, ToShort}
use Rattle.jc_jvm.specs.declared.groups.LongConversion.{LongConversion}
use Rattle.jc_jvm.specs.declared.groups.LongConversion.TheVariants.{LongNegated, Narrowed}
use Rattle.jc_jvm.specs.declared.groups.Comparison.{Comparison}
use Rattle.jc_jvm.specs.declared.groups.Comparison.TheVariants.{Equal, Unequal, Less, NotLess, Greater, NotGreater}
use Rattle.jc_jvm.specs.declared.groups.Width.{Width}
use Rattle.jc_jvm.specs.declared.groups.Width.TheVariants.{NoUnit, OneUnit, TwoUnits}
use Rattle.jc_jvm.specs.declared.value.Value.{Value}
use Rattle.jc_jvm.specs.declared.value.Value.TheVariants.{Whole, Long, Address, NullValue}

-- ---- the stack

-- every value but a long has one unit (category 1 of JVMS 2.11.1)
abbrev pub is_one_unit : Value → Bool
is_one_unit (Long n) = false
is_one_unit _ = true

abbrev pub is_both_one_unit : Value → Value → Bool
is_both_one_unit a b = is_one_unit a && is_one_unit b

-- the topmost values that have so many units, and those beneath them
abbrev pub one_unit : List Value → Option (List Value × List Value)
one_unit (a ∷ rest) = if is_one_unit a then Some (a ∷ [], rest) else None
one_unit [] = None

-- the first value has one unit, and the one beneath it has to have one too
abbrev pub second_unit : Value → List Value → Option (List Value × List Value)
second_unit a (b ∷ rest) = if is_one_unit b then Some (a ∷ b ∷ [], rest) else None
second_unit a [] = None

-- a long, or two values of one unit each
abbrev pub two_units : List Value → Option (List Value × List Value)
two_units (a ∷ rest) = if is_one_unit a then second_unit a rest else Some (a ∷ [], rest)
two_units [] = None

-- as many units as are wanted; None where there are fewer, or where a long would be cut in two
abbrev pub units_taken : Width → List Value → Option (List Value × List Value)
units_taken NoUnit values = Some ([], values)
units_taken OneUnit values = one_unit values
units_taken TwoUnits values = two_units values

-- ---- whole numbers; they wrap, and shifts use the low five or six bits

-- how far the low bits of an int shift an int, or a long
abbrev pub int_shift : ℤ → ℕ
int_shift n = cast_unsigned w32 n % 32

abbrev pub long_shift : ℤ → ℕ
long_shift n = cast_unsigned w32 n % 64

-- -1, 0 or 1, as lcmp gives it
abbrev pub compared : ℤ → ℤ → ℤ
compared a b = if int_lt a b then negsuc 0 else if int_lt b a then pos 1 else pos 0

-- the second operand is the topmost one
abbrev pub int_of_two : Operator → ℤ → ℤ → ℤ
int_of_two Add a b = int_wrapping_add w32 a b
int_of_two Subtract a b = int_wrapping_sub w32 a b
int_of_two Multiply a b = int_wrapping_mul w32 a b
int_of_two And a b = int_bit_and w32 a b
int_of_two Or a b = int_bit_or w32 a b
int_of_two Xor a b = int_bit_xor w32 a b

abbrev pub long_of_two : Operator → ℤ → ℤ → ℤ
long_of_two Add a b = int_wrapping_add w64 a b
long_of_two Subtract a b = int_wrapping_sub w64 a b
long_of_two Multiply a b = int_wrapping_mul w64 a b
long_of_two And a b = int_bit_and w64 a b
long_of_two Or a b = int_bit_or w64 a b
long_of_two Xor a b = int_bit_xor w64 a b

-- an int or a long shifted by an int
abbrev pub int_shifted : Shift → ℤ → ℤ → ℤ
int_shifted Left a b = int_shl w32 a (int_shift b)
int_shifted Right a b = int_shr a (int_shift b)
int_shifted Unsigned a b = cast_signed w32 (cast_unsigned w32 a / 2 ^ int_shift b)

abbrev pub long_shifted : Shift → ℤ → ℤ → ℤ
long_shifted Left a b = int_shl w64 a (long_shift b)
long_shifted Right a b = int_shr a (long_shift b)
long_shifted Unsigned a b = cast_signed w64 (cast_unsigned w64 a / 2 ^ long_shift b)

-- a division by zero throws, which is told elsewhere
abbrev pub is_zero : ℤ → Bool
is_zero n = int_eq n (pos 0)

-- quotients go towards zero, and a remainder has the sign of the dividend
abbrev pub int_quotient : Division → ℤ → ℤ → ℤ
int_quotient Quotient a b = int_wrapping_div w32 a b
int_quotient Remainder a b = int_rem a b

abbrev pub long_quotient : Division → ℤ → ℤ → ℤ
long_quotient Quotient a b = int_wrapping_div w64 a b
long_quotient Remainder a b = int_rem a b

-- l2i: the low four bytes, with the sign that they have as an int
abbrev pub low_int : ℤ → ℤ
low_int n = cast_signed w32 (cast_unsigned w64 n % 2 ^ 32)

-- ineg, i2l, i2b, i2c and i2s; a char has no sign
abbrev pub of_int : IntConversion → ℤ → Value
of_int Negated n = Whole (int_wrapping_neg w32 n)
of_int Widened n = Long n
of_int ToByte n = Whole (cast_signed w8 (cast_unsigned w32 n % 2 ^ 8))
of_int ToChar n = Whole (pos (cast_unsigned w32 n % 2 ^ 16))
of_int ToShort n = Whole (cast_signed w16 (cast_unsigned w32 n % 2 ^ 16))

-- lneg and l2i
abbrev pub of_long : LongConversion → ℤ → Value
of_long LongNegated n = Long (int_wrapping_neg w64 n)
of_long Narrowed n = Whole (low_int n)

-- ---- tests of jumps

-- what each test says of two ints, or of an int and 0
abbrev pub holds : Comparison → ℤ → ℤ → Bool
holds Equal a b = int_eq a b
holds Unequal a b = not (int_eq a b)
holds Less a b = int_lt a b
holds NotLess a b = int_le b a
holds Greater a b = int_lt b a
holds NotGreater a b = int_le a b

-- whether two references are the same object, or both null; None of values that are no references
abbrev pub same_reference : Value → Value → Option Bool
same_reference (Address a) (Address b) = Some (a == b)
same_reference NullValue NullValue = Some true
same_reference (Address a) NullValue = Some false
same_reference NullValue (Address b) = Some false
same_reference _ _ = None

abbrev pub is_null : Value → Option Bool
is_null (Address a) = Some false
is_null NullValue = Some true
is_null _ = None
