-- Operators and conversions on values (JLS 5.1, 15.15 to 15.22). A boolean is 0 or 1.
use Rattle.std.specs.Prelude.{ℕ, ◌%◌, ◌/◌, ◌^◌, ◌==◌, ℤ, pos, negsuc, Bool, true, false, not, Option, Some, None, if◌then◌else◌, int_lt, int_le, int_rem}
use Rattle.std.specs.Int.{Width, w8, w16, w32, w64, cast_unsigned, cast_signed, int_wrap, int_wrapping_add, int_wrapping_sub, int_wrapping_mul, int_wrapping_div, int_wrapping_neg, int_bit_and, int_bit_or, int_bit_xor, int_bit_not, int_shl, int_shr}
use Rattle.jc_types.specs.declared.constant.Op.{Op}
use Rattle.jc_types.specs.declared.constant.Op.TheVariants.{Times, Divide, Remainder, Plus, Minus, ShiftLeft, ShiftRight, ShiftRightUnsigned, Less, Greater, AtMost, AtLeast, Equal, NotEqual, And, Or, Xor, Not, Positive, Negative, Complement, Increment, Decrement}
use Rattle.jc_types.specs.declared.form.Primitive.{Primitive}
use Rattle.jc_types.specs.declared.form.Primitive.TheVariants.{Boolean, Byte, Short, Char, Int, Long as LongType}
use Rattle.jc_running.specs.declared.value.Value.{Value}
use Rattle.jc_running.specs.declared.value.Value.TheVariants.{Whole, Long, Address, Null}
use Rattle.jc_heaps.specs.declared.given.Given.{Given}
use Rattle.jc_heaps.specs.declared.given.Given.TheVariants.{Gives, ByZero, Unfit}

-- whether two integers are equal
abbrev pub int_eq : ℤ → ℤ → Bool
int_eq (pos a) (pos b) = a == b
int_eq (negsuc a) (negsuc b) = a == b
int_eq _ _ = false

-- a boolean as a value: 1 for true, 0 for false
abbrev pub truth : Bool → Value
truth true = Whole (pos 1)
truth false = Whole (pos 0)

-- what is given unless the divisor is zero (JLS 15.17.2, 15.17.3)
abbrev pub unless_zero : ℤ → Given → Given
unless_zero b g = if int_eq b (pos 0) then ByZero else g

-- of two numbers of one width (JLS 15.17, 15.18.2, 15.20, 15.21.1, 15.22.1); `back` makes a value of a number
abbrev pub of_numbers : Op → Width → (ℤ → Value) → ℤ → ℤ → Given
of_numbers Times w back a b = Gives (back (int_wrapping_mul w a b))
of_numbers Divide w back a b = unless_zero b (Gives (back (int_wrapping_div w a b)))
of_numbers Remainder w back a b = unless_zero b (Gives (back (int_rem a b)))
of_numbers Plus w back a b = Gives (back (int_wrapping_add w a b))
of_numbers Minus w back a b = Gives (back (int_wrapping_sub w a b))
of_numbers And w back a b = Gives (back (int_bit_and w a b))
of_numbers Or w back a b = Gives (back (int_bit_or w a b))
of_numbers Xor w back a b = Gives (back (int_bit_xor w a b))
of_numbers Less w back a b = Gives (truth (int_lt a b))
of_numbers Greater w back a b = Gives (truth (int_lt b a))
of_numbers AtMost w back a b = Gives (truth (int_le a b))
of_numbers AtLeast w back a b = Gives (truth (int_le b a))
of_numbers Equal w back a b = Gives (truth (int_eq a b))
of_numbers NotEqual w back a b = Gives (truth (not (int_eq a b)))
of_numbers _ w back a b = Unfit

-- a shift by the low five or six bits of a distance (JLS 15.19)
abbrev pub shifted : Op → Width → (ℤ → Value) → ℤ → ℕ → Given
shifted ShiftLeft w back a n = Gives (back (int_shl w a n))
shifted ShiftRight w back a n = Gives (back (int_shr a n))
shifted ShiftRightUnsigned w back a n = Gives (back (cast_signed w (cast_unsigned w a / 2 ^ n)))
shifted _ w back a n = Unfit

-- `<<`, `>>` and `>>>`
abbrev pub is_shift : Op → Bool
is_shift ShiftLeft = true
is_shift ShiftRight = true
is_shift ShiftRightUnsigned = true
is_shift _ = false

-- the distance of a shift as an unsigned number of its own width; None where it is no number
abbrev pub distance : Value → Option ℕ
distance (Whole n) = Some (cast_unsigned w32 n)
distance (Long n) = Some (cast_unsigned w64 n)
distance _ = None

-- of an int by five bits of the distance, of a long by six; what is no number doesn't fit
abbrev pub shifted_by : Op → Value → Option ℕ → Given
shifted_by op (Whole a) (Some n) = shifted op w32 Whole a (n % 32)
shifted_by op (Long a) (Some n) = shifted op w64 Long a (n % 64)
shifted_by op _ _ = Unfit

-- whether two references are the same (JLS 15.21.3)
abbrev pub of_references : Op → Bool → Given
of_references Equal same = Gives (truth same)
of_references NotEqual same = Gives (truth (not same))
of_references _ same = Unfit

-- of two ints, two longs or two references; operands of different sorts don't fit
abbrev pub matched : Op → Value → Value → Given
matched op (Whole a) (Whole b) = of_numbers op w32 Whole a b
matched op (Long a) (Long b) = of_numbers op w64 Long a b
matched op (Address a) (Address b) = of_references op (a == b)
matched op (Address a) Null = of_references op false
matched op Null (Address b) = of_references op false
matched op Null Null = of_references op true
matched op _ _ = Unfit

-- an operator between two values
abbrev pub operated : Op → Value → Value → Given
operated op v w = if is_shift op then shifted_by op v (distance w) else matched op v w

-- `+`, `-` and `~` of a number, and `!` of a boolean (JLS 15.15.3 to 15.15.6)
abbrev pub of_number : Op → Width → (ℤ → Value) → ℤ → Given
of_number Positive w back a = Gives (back a)
of_number Negative w back a = Gives (back (int_wrapping_neg w a))
of_number Complement w back a = Gives (back (int_bit_not w a))
of_number Not w back a = Gives (truth (int_eq a (pos 0)))
of_number _ w back a = Unfit

-- by the sort of the operand; a reference doesn't fit
abbrev pub prefixed : Op → Value → Given
prefixed op (Whole a) = of_number op w32 Whole a
prefixed op (Long a) = of_number op w64 Long a
prefixed op _ = Unfit

-- one more, and one less (JLS 15.14.2, 15.14.3, 15.15.1, 15.15.2)
abbrev pub stepped : Op → Value → Given
stepped Increment (Whole a) = Gives (Whole (int_wrapping_add w32 a (pos 1)))
stepped Increment (Long a) = Gives (Long (int_wrapping_add w64 a (pos 1)))
stepped Decrement (Whole a) = Gives (Whole (int_wrapping_sub w32 a (pos 1)))
stepped Decrement (Long a) = Gives (Long (int_wrapping_sub w64 a (pos 1)))
stepped _ _ = Unfit

-- a number as a value of a primitive type: its low bits (JLS 5.1.2, 5.1.3)
abbrev pub number_as : Primitive → ℤ → Value
number_as Boolean n = Whole (int_wrap w32 n)
number_as Byte n = Whole (int_wrap w8 n)
number_as Short n = Whole (int_wrap w16 n)
number_as Char n = Whole (pos (cast_unsigned w16 (int_wrap w16 n)))
number_as Int n = Whole (int_wrap w32 n)
number_as LongType n = Long n

-- An int as an element of an array keeps it: its low bits, of a boolean one of them (JVMS 6.5, bastore, castore and sastore). An int and
-- what is no int stay as they are
abbrev pub element_as : Primitive → Value → Value
element_as Boolean (Whole n) = Whole (pos (cast_unsigned w32 n % 2))
element_as Byte (Whole n) = number_as Byte n
element_as Short (Whole n) = number_as Short n
element_as Char (Whole n) = number_as Char n
element_as _ v = v

-- a value that is a number, converted; None for a reference
abbrev pub converted : Primitive → Value → Option Value
converted p (Whole n) = Some (number_as p n)
converted p (Long n) = Some (number_as p n)
converted p _ = None

-- false where the number is 0; None where the value is no int
abbrev pub boolean_of : Value → Option Bool
boolean_of (Whole n) = Some (not (int_eq n (pos 0)))
boolean_of _ = None

-- the number of an int; None for a long and for a reference
abbrev pub whole_of : Value → Option ℤ
whole_of (Whole n) = Some n
whole_of _ = None
