-- Instructions by the erased types of what they work on (JVMS 6.5).
use Rattle.std.specs.Prelude.{ℕ, zero, suc, ◌+◌, nat_lt, ℤ, pos, negsuc, Bool, true, false, List, [], ◌∷◌, Option, Some, None, if◌then◌else◌}
use Rattle.std.specs.Str.{bytes_eq}
use Rattle.jc_types.specs.declared.constant.Constant.{Constant}
use Rattle.jc_types.specs.declared.constant.Constant.TheVariants as constant
use Rattle.jc_types.specs.declared.constant.Op.{Op}
use Rattle.jc_types.specs.declared.constant.Op.TheVariants as op
use Rattle.jc_types.specs.declared.erased.Erased.{Erased}
use Rattle.jc_types.specs.declared.form.Primitive.{Primitive}
use Rattle.jc_types.specs.declared.form.Primitive.TheVariants.{Boolean, Byte, Char, Int, Long, Short}
use Rattle.jc_types.specs.declared.ids.FieldId.{FieldId}
use Rattle.jc_types.specs.declared.ids.MethodId.{MethodId}
use Rattle.jc_types.specs.declared.table.Table.{Table}
use Rattle.jc_types.specs.Accessors.{is_interface, method_name_of}
use Rattle.jc_heaps.specs.Classes.{element_of}
use Rattle.jc_heaps.specs.Making.{units_of_text}
use Rattle.jc_meaning.specs.Programs.{method_class}
use Rattle.jc_typed.specs.declared.expressions.CallKind.{CallKind}
use Rattle.jc_typed.specs.declared.expressions.CallKind.TheVariants.{Static, Virtual, Direct}
use Rattle.jc_erased.specs.declared.program.ErasedProgram.{ErasedProgram}
use Rattle.jc_erased.specs.Programs.{name_of_method}
use Rattle.jc_right.specs.Going.{prim_of}
use Rattle.jc_class_out.specs.declared.model.Loaded.TheVariants as loaded
use Rattle.jc_class_out.specs.declared.model.Operand.{Operand}
use Rattle.jc_class_out.specs.declared.model.Operand.TheVariants as operand
use Rattle.jc_code_spec.specs.Naming.{descriptor, field_member, method_member, type_name}
use Rattle.jc_code_spec.specs.Pieces.{Coder, Do, ◌>>◌, piece, skip}

-- ---- the three sorts of values on the stack (JVMS 2.11.1)

pub data Sort : Type 0 where
  OfInt : Sort
  OfLong : Sort
  OfReference : Sort

abbrev pub sort_in : Option Primitive → Sort
sort_in None = OfReference
sort_in (Some Long) = OfLong
sort_in (Some p) = OfInt

abbrev pub sort_of : Erased → Sort
sort_of e = sort_in (prim_of e)

-- one of three numbers by the sort
abbrev pub by_sort : {A : Type 0} → Sort → A → A → A → A
by_sort OfInt a b c = a
by_sort OfLong a b c = b
by_sort OfReference a b c = c

-- a long takes two units
abbrev pub units : Erased → ℕ
units e = by_sort (sort_of e) 1 2 1

abbrev pub all_units : List Erased → ℕ
all_units [] = 0
all_units (e ∷ es) = units e + all_units es

-- ---- instructions without a place

abbrev pub alone : ℕ → Coder
alone code = piece (Do (record { code = code; wide = false; operand = operand.Nothing }))

abbrev pub with_operand : ℕ → Operand → Coder
with_operand code o = piece (Do (record { code = code; wide = false; operand = o }))

-- a load or a store of the variable at a slot; behind 255 `wide` stands before it
abbrev pub at_slot : ℕ → ℕ → Coder
at_slot code slot = piece (Do (record { code = code; wide = nat_lt 255 slot; operand = operand.Local slot }))

abbrev pub load : Erased → ℕ → Coder
load e slot = at_slot (by_sort (sort_of e) 0x15 0x16 0x19) slot

abbrev pub store : Erased → ℕ → Coder
store e slot = at_slot (by_sort (sort_of e) 0x36 0x37 0x3a) slot

-- constants: of a long, of any other primitive type, of String; and null
abbrev pub push_whole : ℤ → Coder
push_whole n = with_operand 0x13 (operand.Load (loaded.Whole n))

abbrev pub push_number : Primitive → ℤ → Coder
push_number Long n = with_operand 0x14 (operand.Load (loaded.Long n))
push_number p n = push_whole n

abbrev pub push_constant : Constant → Coder
push_constant (constant.Whole n of_it) = push_number of_it n
push_constant (constant.Text text) = with_operand 0x13 (operand.Load (loaded.Text text))

abbrev pub push_null : Coder
push_null = alone 0x01

-- how many elements there are, or which one: below 32768 where the code is within its bound, and no constant of the pool
abbrev pub push_count : ℕ → Coder
push_count n = with_operand 0x11 (operand.Number (pos n))

-- 0 and 1 of a sort, and its default
abbrev pub push_zero : Coder
push_zero = alone 0x03

abbrev pub push_one : Sort → Coder
push_one s = alone (by_sort s 0x04 0x0a 0x01)

abbrev pub push_default : Erased → Coder
push_default e = alone (by_sort (sort_of e) 0x03 0x09 0x01)

-- the value on top goes, or is copied: onto itself, below one reference, or below two words
abbrev pub pop : Erased → Coder
pop e = alone (by_sort (sort_of e) 0x57 0x58 0x57)

abbrev pub copy : Erased → Coder
copy e = alone (by_sort (sort_of e) 0x59 0x5c 0x59)

abbrev pub copy_below_one : Erased → Coder
copy_below_one e = alone (by_sort (sort_of e) 0x5a 0x5d 0x5a)

abbrev pub copy_below_two : Erased → Coder
copy_below_two e = alone (by_sort (sort_of e) 0x5b 0x5e 0x5b)

-- ---- conversions (JLS 5.1.2, 5.1.3)

abbrev pub widen : Sort → Sort → Coder
widen OfInt OfLong = alone 0x85
widen s t = skip

-- a long becomes an int first
abbrev pub cut : Sort → Coder
cut OfLong = alone 0x88
cut s = skip

abbrev pub narrow_int : Primitive → Coder
narrow_int Byte = alone 0x91
narrow_int Char = alone 0x92
narrow_int Short = alone 0x93
narrow_int p = skip

abbrev pub narrow : Sort → Primitive → Coder
narrow s Long = widen s OfLong
narrow s p = cut s >> narrow_int p

-- ---- operators on numbers, of ints and of longs

abbrev pub int_or_long : Sort → ℕ → Coder
int_or_long s code = alone (by_sort s code (suc code) code)

-- a prefix operator: `!` and `~` as exclusive or with 1 and with all bits (JLS 15.15)
abbrev pub prefix : Sort → Op → Coder
prefix s op.Negative = int_or_long s 0x74
prefix OfLong op.Complement = push_number Long (negsuc 0) >> alone 0x83
prefix s op.Complement = alone 0x02 >> alone 0x82
prefix s op.Not = alone 0x04 >> alone 0x82
prefix s op = skip

-- `++` and `--` add or take away 1
abbrev pub step_code : Op → ℕ
step_code op.Decrement = 0x64
step_code op = 0x60

abbrev pub step_by_one : Sort → Op → Coder
step_by_one s op = push_one s >> int_or_long s (step_code op)

-- an operator that gives a number; a distance of a shift is an int (JLS 15.19)
abbrev pub arithmetic_code : Op → Option ℕ
arithmetic_code op.Plus = Some 0x60
arithmetic_code op.Minus = Some 0x64
arithmetic_code op.Times = Some 0x68
arithmetic_code op.Divide = Some 0x6c
arithmetic_code op.Remainder = Some 0x70
arithmetic_code op.ShiftLeft = Some 0x78
arithmetic_code op.ShiftRight = Some 0x7a
arithmetic_code op.ShiftRightUnsigned = Some 0x7c
arithmetic_code op.And = Some 0x7e
arithmetic_code op.Or = Some 0x80
arithmetic_code op.Xor = Some 0x82
arithmetic_code op = None

abbrev pub is_shift : Op → Bool
is_shift op.ShiftLeft = true
is_shift op.ShiftRight = true
is_shift op.ShiftRightUnsigned = true
is_shift op = false

-- which test of an int against 0 holds (JVMS 6.5 if<cond>)
abbrev pub test_code : Op → ℕ
test_code op.Equal = 0x99
test_code op.NotEqual = 0x9a
test_code op.Less = 0x9b
test_code op.AtLeast = 0x9c
test_code op.Greater = 0x9d
test_code op = 0x9e

-- .. of two ints, and of two references
abbrev pub pair_code : Sort → Op → ℕ
pair_code OfReference op.Equal = 0xa5
pair_code OfReference op = 0xa6
pair_code s op = test_code op + 6

-- ---- members

abbrev pub get_static : Table → FieldId → Coder
get_static T f = with_operand 0xb2 (field_member T f)

abbrev pub put_static : Table → FieldId → Coder
put_static T f = with_operand 0xb3 (field_member T f)

abbrev pub get_field : Table → FieldId → Coder
get_field T f = with_operand 0xb4 (field_member T f)

abbrev pub put_field : Table → FieldId → Coder
put_field T f = with_operand 0xb5 (field_member T f)

-- A call by the class of the object is one of an interface's method where that declares it. A direct call of a method that has another name in its class file than in its source, since classes of
-- its nest call it, goes by the class too: nothing overrides that name (JVMS 5.4.4, 6.5)
abbrev pub virtual_code : Table → MethodId → ℕ
virtual_code T m = if is_interface T (method_class T m) then 0xb9 else 0xb6

abbrev pub direct_code : ErasedProgram → MethodId → ℕ
direct_code P m = if bytes_eq (name_of_method P m) (units_of_text (method_name_of P.table m)) then 0xb7 else 0xb6

abbrev pub call_code : ErasedProgram → CallKind → MethodId → ℕ
call_code P Static m = 0xb8
call_code P Virtual m = virtual_code P.table m
call_code P Direct m = direct_code P m

abbrev pub call : ErasedProgram → CallKind → MethodId → Coder
call P kind m = with_operand (call_code P kind m) (method_member P m)

-- a constructor, or a method of a final class
abbrev pub call_special : ErasedProgram → MethodId → Coder
call_special P m = with_operand 0xb7 (method_member P m)

abbrev pub call_final : ErasedProgram → MethodId → Coder
call_final P m = with_operand 0xb6 (method_member P m)

-- ---- types

abbrev pub check_cast : Table → Erased → Coder
check_cast T e = with_operand 0xc0 (operand.Class (type_name T e))

abbrev pub instance_of : Table → Erased → Coder
instance_of T e = with_operand 0xc1 (operand.Class (type_name T e))

-- ---- arrays

-- loads and stores of elements by the element's type
abbrev pub element_code : Option Primitive → ℕ
element_code None = 0x32
element_code (Some Boolean) = 0x33
element_code (Some Byte) = 0x33
element_code (Some Char) = 0x34
element_code (Some Short) = 0x35
element_code (Some Int) = 0x2e
element_code (Some Long) = 0x2f

abbrev pub get_element : Erased → Coder
get_element e = alone (element_code (prim_of e))

abbrev pub put_element : Erased → Coder
put_element e = alone (element_code (prim_of e) + 33)

abbrev pub array_length : Coder
array_length = alone 0xbe

-- the number by which newarray tells a primitive type
abbrev pub array_number : Primitive → ℕ
array_number Boolean = 4
array_number Char = 5
array_number Byte = 8
array_number Short = 9
array_number Int = 10
array_number Long = 11

abbrev pub new_array_of : Table → Erased → Option Primitive → Coder
new_array_of T e (Some p) = with_operand 0xbc (operand.Number (pos (array_number p)))
new_array_of T e None = with_operand 0xbd (operand.Class (type_name T e))

-- an array of an array type, whose length is on top
abbrev pub new_array : Table → Erased → Coder
new_array T e = new_array_of T (element_of e) (prim_of (element_of e))

-- .. of as many lengths as are there
abbrev pub new_arrays : Table → Erased → ℕ → Coder
new_arrays T e (suc zero) = new_array T e
new_arrays T e n = with_operand 0xc5 (operand.Dims (descriptor T e) n)

-- ---- the ends of a method

abbrev pub give_back : Option Erased → Coder
give_back None = alone 0xb1
give_back (Some e) = alone (by_sort (sort_of e) 0xac 0xad 0xb0)
