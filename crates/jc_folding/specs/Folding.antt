-- Operators between constants (JLS 15.28): what they give is what they give of the constants' values in a running program.
use Rattle.std.specs.Prelude.{ℕ, ◌||◌, ◌&&◌, not, Bool, true, false, ℤ, pos, Option, Some, None, List, [], ◌∷◌, ◌++◌, codes, nat_eq, if◌then◌else◌}
use Rattle.std.specs.Fmt.{signed_decimal}
use Rattle.std.specs.Int.{w16, cast_unsigned, int_wrap}
use Rattle.jc_types.specs.declared.constant.Constant.{Constant}
use Rattle.jc_types.specs.declared.constant.Constant.TheVariants.{Whole, Text}
use Rattle.jc_types.specs.declared.constant.Op.{Op}
use Rattle.jc_types.specs.declared.constant.Op.TheVariants as op
use Rattle.jc_types.specs.declared.form.Primitive.{Primitive}
use Rattle.jc_types.specs.declared.form.Primitive.TheVariants.{Boolean, Char, Int, Long}
use Rattle.jc_running.specs.declared.value.Value.{Value}
use Rattle.jc_running.specs.declared.value.Value.TheVariants as value
use Rattle.jc_heaps.specs.declared.given.Given.{Given}
use Rattle.jc_heaps.specs.declared.given.Given.TheVariants.{Gives, ByZero, Unfit}
use Rattle.jc_heaps.specs.Numbers.{int_eq, number_as, operated, is_shift}

-- whether a type is `boolean`, and whether it is `long`: by these operands are told apart and promoted
abbrev pub is_boolean : Primitive → Bool
is_boolean Boolean = true
is_boolean _ = false

abbrev pub is_long : Primitive → Bool
is_long Long = true
is_long _ = false

-- unary numeric promotion (JLS 5.6.1), and binary (JLS 5.6.2)
abbrev pub promoted : Primitive → Primitive
promoted Long = Long
promoted _ = Int

abbrev pub both_promoted : Primitive → Primitive → Primitive
both_promoted p q = if is_long p || is_long q then Long else Int

-- `<`, `>`, `<=`, `>=`, `==` and `!=`, whose result is a boolean
abbrev pub is_comparison : Op → Bool
is_comparison op.Less = true
is_comparison op.Greater = true
is_comparison op.AtMost = true
is_comparison op.AtLeast = true
is_comparison op.Equal = true
is_comparison op.NotEqual = true
is_comparison _ = false

-- a value of this type as a constant, if it is a number
abbrev pub as_constant : Primitive → Value → Option Constant
as_constant p (value.Whole n) = Some (Whole n p)
as_constant p (value.Long n) = Some (Whole n p)
as_constant p _ = None

-- what an operator gave, as a constant; None for a division by zero, and where the operands don't fit
abbrev pub given_constant : Primitive → Given → Option Constant
given_constant p (Gives v) = as_constant p v
given_constant p ByZero = None
given_constant p Unfit = None

-- a shift has the type of what is shifted (JLS 15.19)
abbrev pub shifted : Op → ℤ → Primitive → ℤ → Primitive → Option Constant
shifted o n p m q = given_constant (promoted p) (operated o (number_as (promoted p) n) (number_as (promoted q) m))

-- numbers of the promoted type, or their comparison (JLS 15.17, 15.18.2, 15.20, 15.21.1, 15.22.1)
abbrev pub numbers : Op → ℤ → ℤ → Primitive → Option Constant
numbers o n m t = given_constant (if is_comparison o then Boolean else t) (operated o (number_as t n) (number_as t m))

-- an operator between numbers: a shift promotes each operand on its own, the others both together
abbrev pub numeric : Op → ℤ → Primitive → ℤ → Primitive → Option Constant
numeric o n p m q = if is_shift o then shifted o n p m q else numbers o n m (both_promoted p q)

-- the operators between booleans (JLS 15.21.2, 15.22.2, 15.23, 15.24)
abbrev pub boolean_operator : Op → Option Op
boolean_operator op.And = Some op.And
boolean_operator op.Or = Some op.Or
boolean_operator op.Xor = Some op.Xor
boolean_operator op.Equal = Some op.Equal
boolean_operator op.NotEqual = Some op.NotEqual
boolean_operator op.ConditionalAnd = Some op.And
boolean_operator op.ConditionalOr = Some op.Or
boolean_operator _ = None

-- None where it is no operator between booleans
abbrev pub booleans_by : Option Op → ℤ → ℤ → Option Constant
booleans_by None n m = None
booleans_by (Some o) n m = given_constant Boolean (operated o (number_as Boolean n) (number_as Boolean m))

-- of two booleans or two numbers; None where one operand is a boolean and the other is none
abbrev pub wholes : Op → ℤ → Primitive → ℤ → Primitive → Option Constant
wholes o n p m q =
    if is_boolean p && is_boolean q then booleans_by (boolean_operator o) n m
    else (if is_boolean p || is_boolean q then None else numeric o n p m q)

-- ---- strings

-- the units of a value in a string (JLS 15.18.1, 5.1.11)
abbrev pub spelled : ℤ → Primitive → List ℕ
spelled n Boolean = if int_eq n (pos 0) then codes "false" else codes "true"
spelled n Char = cast_unsigned w16 (int_wrap w16 n) ∷ []
spelled n _ = signed_decimal n

-- whether two strings have the same UTF-16 units
abbrev pub same_units : List ℕ → List ℕ → Bool
same_units [] [] = true
same_units [] (y ∷ ys) = false
same_units (x ∷ xs) [] = false
same_units (x ∷ xs) (y ∷ ys) = nat_eq x y && same_units xs ys

-- a boolean constant: 1 for true, 0 for false
abbrev pub truth_constant : Bool → Constant
truth_constant true = Whole (pos 1) Boolean
truth_constant false = Whole (pos 0) Boolean

-- two strings (JLS 15.18.1); constant ones are the same string where they have the same units (JLS 3.10.5, 15.28)
abbrev pub texts : Op → List ℕ → List ℕ → Option Constant
texts op.Plus xs ys = Some (Text (xs ++ ys))
texts op.Equal xs ys = Some (truth_constant (same_units xs ys))
texts op.NotEqual xs ys = Some (truth_constant (not (same_units xs ys)))
texts _ xs ys = None

-- string `+` where one operand is a string already (JLS 15.18.1)
abbrev pub joined : Op → List ℕ → List ℕ → Option Constant
joined op.Plus xs ys = Some (Text (xs ++ ys))
joined _ xs ys = None

-- what an operator gives of two constants: None where it doesn't take them, or divides by zero
abbrev pub fold : Op → Constant → Constant → Option Constant
fold o (Text xs) (Text ys) = texts o xs ys
fold o (Text xs) (Whole m q) = joined o xs (spelled m q)
fold o (Whole n p) (Text ys) = joined o (spelled n p) ys
fold o (Whole n p) (Whole m q) = wholes o n p m q
