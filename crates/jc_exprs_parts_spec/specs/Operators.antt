-- What each operator does to operands of some types (JLS 15.14, 15.15, 15.17 to 15.24): the types that they are converted to, and its result.
use Rattle.std.specs.Prelude.{◌||◌, ◌&&◌, Bool, List, [], Option, Some, None, if◌then◌else◌, codes}
use Rattle.jc_tree.specs.declared.expression.BinaryOp.{BinaryOp}
use Rattle.jc_tree.specs.declared.expression.BinaryOp.TheVariants as binary
use Rattle.jc_types.specs.declared.constant.Op.{Op}
use Rattle.jc_types.specs.declared.constant.Op.TheVariants as op
use Rattle.jc_types.specs.declared.environment.Bounds.{Bounds}
use Rattle.jc_types.specs.declared.form.Primitive.{Primitive}
use Rattle.jc_types.specs.declared.form.Primitive.TheVariants.{Boolean, Char, Int, Long}
use Rattle.jc_types.specs.declared.form.Ty.{Ty, Ty-F, out-Ty}
use Rattle.jc_types.specs.declared.form.Ty.TheVariants.{Prim, Class}
use Rattle.jc_types.specs.declared.table.Table.{Table}
use Rattle.jc_types.specs.Accessors.{class_named}
use Rattle.jc_types.specs.Sameness.{same}
use Rattle.jc_judge.specs.Kinds.{Layer, is_primitive, is_boolean, is_long}
use Rattle.jc_typed.specs.declared.expressions.Joint.{Joint}
use Rattle.jc_typed.specs.declared.expressions.Joint.TheVariants as joint
use Rattle.jc_typed.specs.declared.expressions.Printed.{Printed}
use Rattle.jc_typed.specs.declared.expressions.Printed.TheVariants as printed
use Rattle.jc_convert.specs.declared.answer.Converts.{Converts}
use Rattle.jc_convert.specs.declared.answer.Converts.TheVariants as converts
use Rattle.jc_convert.specs.Casting.{cast, is_numeric}
use Rattle.jc_convert.specs.Converting.{unboxed}

-- ---- kinds of types

abbrev pub primitive_or : Option Primitive → Layer → Option Primitive
primitive_or o (Ty-F.Prim p) = Some p
primitive_or o _ = o

-- the primitive type of an operand, after unboxing (JLS 5.1.8)
unfoldable pub as_primitive : Table → List Bounds → Ty → Option Primitive
as_primitive T env t = primitive_or (unboxed T env t) (out-Ty t)

abbrev pub string_type : Table → Ty
string_type T = Class (class_named T (codes "java.lang.String")) []

abbrev pub is_string : Table → Ty → Bool
is_string T t = same t (string_type T)

-- binary numeric promotion (JLS 5.6.2), and unary (JLS 5.6.1)
abbrev pub promoted_both : Primitive → Primitive → Primitive
promoted_both p q = if is_long p || is_long q then Long else Int

abbrev pub promoted : Primitive → Primitive
promoted p = if is_long p then Long else Int

-- ---- the table of binary operators

-- what joins the operands, the types that they are converted to, and the type of the result
pub record Takes : Type 0 where
  pub joint : Joint
  pub left : Ty
  pub right : Ty
  pub result : Ty

-- whether the operator takes them: it does, it doesn't, or it can't be told
pub data Verdict : Type 0 where
  Taken : Takes → Verdict
  Refused : Verdict
  Unknown : Verdict

abbrev pub takes : Op → Primitive → Primitive → Primitive → Verdict
takes o left right result = Taken (record { joint = joint.Operator o; left = Prim left; right = Prim right; result = Prim result })

-- of two primitive types, after unboxing
abbrev pub on_primitives : Op → Option Primitive → Option Primitive → (Op → Primitive → Primitive → Verdict) → Verdict
on_primitives o (Some p) (Some q) f = f o p q
on_primitives o _ _ f = Refused

-- 15.17, 15.18.2
abbrev pub arithmetic : Op → Primitive → Primitive → Verdict
arithmetic o p q = if is_numeric p && is_numeric q then takes o (promoted_both p q) (promoted_both p q) (promoted_both p q) else Refused

-- 15.20.1
abbrev pub comparison : Op → Primitive → Primitive → Verdict
comparison o p q = if is_numeric p && is_numeric q then takes o (promoted_both p q) (promoted_both p q) Boolean else Refused

-- 15.19: each operand is promoted by itself
abbrev pub shift : Op → Primitive → Primitive → Verdict
shift o p q = if is_numeric p && is_numeric q then takes o (promoted p) (promoted q) (promoted p) else Refused

-- 15.22: both boolean, or both numeric
abbrev pub logical : Op → Primitive → Primitive → Verdict
logical o p q = if is_boolean p && is_boolean q then takes o Boolean Boolean Boolean else arithmetic o p q

-- 15.23, 15.24
abbrev pub conditional : Op → Primitive → Primitive → Verdict
conditional o p q = if is_boolean p && is_boolean q then takes o Boolean Boolean Boolean else Refused

-- by which `String.valueOf` an operand of string `+` becomes a string
abbrev pub printed_as : Layer → Printed
printed_as (Ty-F.Prim Boolean) = printed.Boolean
printed_as (Ty-F.Prim Char) = printed.Char
printed_as (Ty-F.Prim Long) = printed.Long
printed_as (Ty-F.Prim p) = printed.Int
printed_as _ = printed.Reference

-- 15.18.1: nothing is converted but to a string
abbrev pub concat : Table → Ty → Ty → Verdict
concat T s t = Taken (record { joint = joint.Concat (printed_as (out-Ty s)) (printed_as (out-Ty t)); left = s; right = t; result = string_type T })

-- 15.18: string `+` where one operand is a String
abbrev pub sum : Table → List Bounds → Ty → Ty → Verdict
sum T env s t = if is_string T s || is_string T t then concat T s t else on_primitives op.Plus (as_primitive T env s) (as_primitive T env t) arithmetic

-- 15.21.3: references, one of which casts to the type of the other
abbrev pub castable_either : Op → Ty → Ty → Converts → Converts → Verdict
castable_either o s t (converts.Yes c) d = Taken (record { joint = joint.Operator o; left = s; right = t; result = Prim Boolean })
castable_either o s t c (converts.Yes d) = Taken (record { joint = joint.Operator o; left = s; right = t; result = Prim Boolean })
castable_either o s t converts.NoConversion converts.NoConversion = Refused
castable_either o s t _ _ = Unknown

-- 15.21.1, 15.21.2
abbrev pub equal_primitives : Op → Primitive → Primitive → Verdict
equal_primitives o p q = if is_boolean p && is_boolean q then takes o Boolean Boolean Boolean else comparison o p q

-- 15.21: numbers or booleans where at least one of them is primitive, and else references
abbrev pub equality : Table → List Bounds → Op → Ty → Ty → Verdict
equality T env o s t =
    if is_primitive s || is_primitive t then on_primitives o (as_primitive T env s) (as_primitive T env t) equal_primitives
    else castable_either o s t (cast T env s t) (cast T env t s)

-- what an operator does to operands of two types
abbrev pub taken : Table → List Bounds → BinaryOp → Ty → Ty → Verdict
taken T env binary.Times s t = on_primitives op.Times (as_primitive T env s) (as_primitive T env t) arithmetic
taken T env binary.Divide s t = on_primitives op.Divide (as_primitive T env s) (as_primitive T env t) arithmetic
taken T env binary.Remainder s t = on_primitives op.Remainder (as_primitive T env s) (as_primitive T env t) arithmetic
taken T env binary.Plus s t = sum T env s t
taken T env binary.Minus s t = on_primitives op.Minus (as_primitive T env s) (as_primitive T env t) arithmetic
taken T env binary.ShiftLeft s t = on_primitives op.ShiftLeft (as_primitive T env s) (as_primitive T env t) shift
taken T env binary.ShiftRight s t = on_primitives op.ShiftRight (as_primitive T env s) (as_primitive T env t) shift
taken T env binary.ShiftRightZero s t = on_primitives op.ShiftRightUnsigned (as_primitive T env s) (as_primitive T env t) shift
taken T env binary.Less s t = on_primitives op.Less (as_primitive T env s) (as_primitive T env t) comparison
taken T env binary.Greater s t = on_primitives op.Greater (as_primitive T env s) (as_primitive T env t) comparison
taken T env binary.LessEqual s t = on_primitives op.AtMost (as_primitive T env s) (as_primitive T env t) comparison
taken T env binary.GreaterEqual s t = on_primitives op.AtLeast (as_primitive T env s) (as_primitive T env t) comparison
taken T env binary.Equal s t = equality T env op.Equal s t
taken T env binary.NotEqual s t = equality T env op.NotEqual s t
taken T env binary.And s t = on_primitives op.And (as_primitive T env s) (as_primitive T env t) logical
taken T env binary.Xor s t = on_primitives op.Xor (as_primitive T env s) (as_primitive T env t) logical
taken T env binary.Or s t = on_primitives op.Or (as_primitive T env s) (as_primitive T env t) logical
taken T env binary.AndAlso s t = on_primitives op.ConditionalAnd (as_primitive T env s) (as_primitive T env t) conditional
taken T env binary.OrElse s t = on_primitives op.ConditionalOr (as_primitive T env s) (as_primitive T env t) conditional

-- ---- prefix operators but `++` and `--`: the primitive type that the operand is converted to, which is that of the result (15.15.3 to 15.15.6)

abbrev pub only_boolean : Primitive → Option Primitive
only_boolean p = if is_boolean p then Some Boolean else None

abbrev pub only_numeric : Primitive → Option Primitive
only_numeric p = if is_numeric p then Some (promoted p) else None

abbrev pub prefix_on : Op → Primitive → Option Primitive
prefix_on op.Not p = only_boolean p
prefix_on o p = only_numeric p

abbrev pub prefix_taken : Op → Option Primitive → Option Primitive
prefix_taken o None = None
prefix_taken o (Some p) = prefix_on o p
