-- Where values of erased types can go (JLS 4.10, 5.1.2, 5.1.7, 5.1.8; JVMS 4.10.1.2), and what operators take (JLS 15.15 to 15.22).
use Rattle.std.specs.Prelude.{◌==◌, ℤ, pos, negsuc, Bool, true, false, ◌&&◌, ◌||◌, Option, Some, None, codes, if◌then◌else◌, int_le}
use Rattle.jc_types.specs.declared.constant.Constant.{Constant}
use Rattle.jc_types.specs.declared.constant.Constant.TheVariants as constant
use Rattle.jc_types.specs.declared.constant.Op.{Op}
use Rattle.jc_types.specs.declared.constant.Op.TheVariants.{Times, Divide, Remainder, Plus, Minus, ShiftLeft, ShiftRight, ShiftRightUnsigned, Less, Greater, AtMost, AtLeast, Equal, NotEqual, And, Or, Xor, Not, Positive, Negative, Complement, Increment, Decrement}
use Rattle.jc_types.specs.declared.erased.Base.{Base}
use Rattle.jc_types.specs.declared.erased.Base.TheVariants as base
use Rattle.jc_types.specs.declared.erased.Erased.{Erased}
use Rattle.jc_types.specs.declared.form.Primitive.{Primitive}
use Rattle.jc_types.specs.declared.form.Primitive.TheVariants.{Boolean, Byte, Short, Char, Int, Long}
use Rattle.jc_types.specs.declared.ids.ClassId.{ClassId}
use Rattle.jc_types.specs.declared.table.Table.{Table}
use Rattle.jc_types.specs.Accessors.{class_named}
use Rattle.jc_types.specs.Erasing.{plain}
use Rattle.jc_heaps.specs.Classes.{is_of, same_erased}
use Rattle.jc_typed.specs.declared.expressions.Printed.{Printed}
use Rattle.jc_typed.specs.declared.expressions.Printed.TheVariants as printed

-- a primitive type and a class as erased types, and the null type, which a call without a result has too
abbrev pub prim : Primitive → Erased
prim p = plain (base.Prim p)

abbrev pub class : ClassId → Erased
class k = plain (base.Class k)

abbrev pub nothing : Erased
nothing = plain base.NullTy

-- the primitive type that an erased type is, if it is one
abbrev pub prim_base : Base → Option Primitive
prim_base (base.Prim p) = Some p
prim_base _ = None

abbrev pub prim_of : Erased → Option Primitive
prim_of e = if e.dims == 0 then prim_base e.base else None

-- the null type without dimensions
abbrev pub is_null_base : Base → Bool
is_null_base base.NullTy = true
is_null_base _ = false

abbrev pub is_null : Erased → Bool
is_null e = (e.dims == 0) && is_null_base e.base

-- what isn't primitive
abbrev pub is_none : {A : Type 0} → Option A → Bool
is_none None = true
is_none (Some a) = false

abbrev pub is_reference : Erased → Bool
is_reference e = is_none (prim_of e)

-- A value of one erased type can stand where the other one is wanted: a reference to an object or array of it, the null reference where a reference is
-- wanted, a value of the same primitive type
abbrev pub goes : Table → Erased → Erased → Bool
goes T e f = if is_null e then is_reference f else is_of T e f

-- Throwable, or a class below it
abbrev pub throwable : Table → Erased
throwable T = class (class_named T (codes "java.lang.Throwable"))

-- `byte`, `short`, `char`, `int` and `long`
abbrev pub is_number : Primitive → Bool
is_number Boolean = false
is_number _ = true

-- a number that the machine holds as an int
abbrev pub is_small : Primitive → Bool
is_small Boolean = false
is_small Long = false
is_small _ = true

-- widening conversions of numbers, that to the type itself among them (JLS 5.1.2)
abbrev pub widens : Primitive → Primitive → Bool
widens Boolean _ = false
widens _ Boolean = false
widens _ Long = true
widens Long _ = false
widens _ Int = true
widens Byte Byte = true
widens Byte Short = true
widens Short Short = true
widens Char Char = true
widens _ _ = false

-- the values of a type from the least to the greatest (JLS 4.2.1); a `boolean` is 0 or 1
abbrev pub between : ℤ → ℤ → ℤ → Bool
between low high n = int_le low n && int_le n high

abbrev pub in_range : Primitive → ℤ → Bool
in_range Boolean n = between (pos 0) (pos 1) n
in_range Byte n = between (negsuc 127) (pos 127) n
in_range Short n = between (negsuc 32767) (pos 32767) n
in_range Char n = between (pos 0) (pos 65535) n
in_range Int n = between (negsuc 2147483647) (pos 2147483647) n
in_range Long n = between (negsuc 9223372036854775807) (pos 9223372036854775807) n

-- a prefix operator takes an int or a long, `!` a boolean, and gives a value of the same type (JLS 15.15)
abbrev pub takes_prefix : Op → Primitive → Bool
takes_prefix Not Boolean = true
takes_prefix Positive Int = true
takes_prefix Positive Long = true
takes_prefix Negative Int = true
takes_prefix Negative Long = true
takes_prefix Complement Int = true
takes_prefix Complement Long = true
takes_prefix _ _ = false

-- operators by what they take and give: of numbers a number, of numbers or booleans the same, of numbers a boolean, of any two values that can be equal a boolean
abbrev pub is_arithmetic : Op → Bool
is_arithmetic Times = true
is_arithmetic Divide = true
is_arithmetic Remainder = true
is_arithmetic Plus = true
is_arithmetic Minus = true
is_arithmetic _ = false

abbrev pub is_bitwise : Op → Bool
is_bitwise And = true
is_bitwise Or = true
is_bitwise Xor = true
is_bitwise _ = false

abbrev pub is_shift : Op → Bool
is_shift ShiftLeft = true
is_shift ShiftRight = true
is_shift ShiftRightUnsigned = true
is_shift _ = false

abbrev pub is_order : Op → Bool
is_order Less = true
is_order Greater = true
is_order AtMost = true
is_order AtLeast = true
is_order _ = false

abbrev pub is_equality : Op → Bool
is_equality Equal = true
is_equality NotEqual = true
is_equality _ = false

-- of two ints or two longs, and of two booleans
abbrev pub of_numbers : Op → Primitive → Option Erased
of_numbers op p =
    if is_arithmetic op || is_bitwise op then Some (prim p) else
    if is_order op || is_equality op then Some (prim Boolean) else None

abbrev pub of_booleans : Op → Option Erased
of_booleans op = if is_bitwise op || is_equality op then Some (prim Boolean) else None

-- of two primitive values: both ints, both longs or both booleans; a shift takes any of these two numbers on its right (JLS 15.17 to 15.22)
abbrev pub of_prims : Op → Primitive → Primitive → Option Erased
of_prims op Int Int = if is_shift op then Some (prim Int) else of_numbers op Int
of_prims op Long Long = if is_shift op then Some (prim Long) else of_numbers op Long
of_prims op Int Long = if is_shift op then Some (prim Int) else None
of_prims op Long Int = if is_shift op then Some (prim Long) else None
of_prims op Boolean Boolean = of_booleans op
of_prims op _ _ = None

-- what an operator gives between values of two types, if it takes them; two references can be compared (JLS 15.21.3)
abbrev pub of_two : Op → Option Primitive → Option Primitive → Option Erased
of_two op (Some p) (Some q) = of_prims op p q
of_two op None None = if is_equality op then Some (prim Boolean) else None
of_two op _ _ = None

abbrev pub operated_type : Op → Erased → Erased → Option Erased
operated_type op e f = of_two op (prim_of e) (prim_of f)

-- the operand of string `+` is of the type that its `valueOf` takes (JLS 15.18.1)
abbrev pub is_printed : Printed → Option Primitive → Bool
is_printed printed.Boolean (Some Boolean) = true
is_printed printed.Char (Some Char) = true
is_printed printed.Int (Some Byte) = true
is_printed printed.Int (Some Short) = true
is_printed printed.Int (Some Int) = true
is_printed printed.Long (Some Long) = true
is_printed printed.Reference None = true
is_printed _ _ = false

-- `++` and `--` take a number; one that is smaller than an int becomes an int (JLS 15.14.2)
abbrev pub is_change : Op → Bool
is_change Increment = true
is_change Decrement = true
is_change _ = false

abbrev pub stepped_type : Op → Option Primitive → Option Erased
stepped_type op None = None
stepped_type op (Some Boolean) = None
stepped_type op (Some Long) = if is_change op then Some (prim Long) else None
stepped_type op (Some p) = if is_change op then Some (prim Int) else None

-- a constant of a type is in its range, and a string is a String
abbrev pub constant_goes : ClassId → Constant → Erased → Bool
constant_goes string (constant.Whole n of_it) e = same_erased e (prim of_it) && in_range of_it n
constant_goes string (constant.Text units) e = same_erased e (class string)
