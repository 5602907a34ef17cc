-- Constant expressions (JLS 15.28), and the values of fields that are constant variables (JLS 4.12.4). What an operator gives of constants is what
-- it gives of their values in a running program.
use Rattle.std.specs.Prelude.{ℕ, zero, suc, ◌==◌, ◌||◌, ◌&&◌, Bool, true, false, ℤ, pos, List, [], ◌∷◌, length, Option, Some, None, if◌then◌else◌}
use Rattle.jc_types.specs.declared.constant.Constant.{Constant}
use Rattle.jc_types.specs.declared.constant.Constant.TheVariants.{Whole, Text}
use Rattle.jc_types.specs.declared.constant.ConstantExpr.{ConstantExpr, ConstantExpr-F, fold-ConstantExpr}
use Rattle.jc_types.specs.declared.constant.ConstantPart.{ConstantPart-F}
use Rattle.jc_types.specs.declared.constant.ConstantType.{ConstantType}
use Rattle.jc_types.specs.declared.constant.ConstantType.TheVariants as to
use Rattle.jc_types.specs.declared.constant.Op.{Op}
use Rattle.jc_types.specs.declared.declarations.FieldDecl.{FieldDecl}
use Rattle.jc_types.specs.declared.declarations.FieldValue.{FieldValue}
use Rattle.jc_types.specs.declared.declarations.FieldValue.TheVariants as value
use Rattle.jc_types.specs.declared.form.Primitive.{Primitive}
use Rattle.jc_types.specs.declared.form.Primitive.TheVariants.{Boolean, Byte, Short, Int}
use Rattle.jc_types.specs.declared.form.Ty.{Ty, Ty-F, out-Ty}
use Rattle.jc_types.specs.declared.form.Ty.TheVariants.{Prim}
use Rattle.jc_types.specs.declared.ids.ClassId.{ClassId}
use Rattle.jc_types.specs.declared.table.Table.{Table}
use Rattle.jc_types.specs.Sameness.{prim_number}
use Rattle.jc_judge.specs.Kinds.{Layer, is_boolean}
use Rattle.jc_heaps.specs.Numbers.{int_eq, number_as, prefixed}
use Rattle.jc_convert.specs.declared.answer.Converts.{Converts}
use Rattle.jc_convert.specs.declared.answer.Converts.TheVariants as converts
use Rattle.jc_convert.specs.Casting.{is_numeric}
use Rattle.jc_convert.specs.Converting.{assignment, narrows}
use Rattle.jc_folding.specs.Folding.{as_constant, fold, given_constant}
use Rattle.jc_declares.specs.declared.heads.Heads.{Heads}
use Rattle.jc_declares.specs.Looking.{Knowledge}
use Rattle.jc_exprs_parts_spec.specs.Operators.{is_string, prefix_on, promoted_both, string_type}
use Rattle.jc_exprs_parts_spec.specs.Senses.{Sense, OfField, simple_sense, next_senses}
use Rattle.jc_exprs_parts_spec.specs.Worlds.{World, Instance, constant_field}

-- ---- operators on constants

-- 15.15.3 to 15.15.6, in the type that the operand is promoted to
abbrev pub prefixed_as : Op → ℤ → Option Primitive → Option Constant
prefixed_as o n None = None
prefixed_as o n (Some q) = given_constant q (prefixed o (number_as q n))

abbrev pub prefixed_constant : Op → Constant → Option Constant
prefixed_constant o (Whole n p) = prefixed_as o n (prefix_on o p)
prefixed_constant o (Text units) = None

-- 5.1.2, 5.1.3: between numbers, and from boolean to itself
abbrev pub cast_number : Primitive → ℤ → Primitive → Option Constant
cast_number q n p = if (is_numeric p && is_numeric q) || (is_boolean p && is_boolean q) then as_constant q (number_as q n) else None

abbrev pub cast_constant : Primitive → Constant → Option Constant
cast_constant q (Whole n p) = cast_number q n p
cast_constant q (Text units) = None

-- a string stays, where it goes to String
abbrev pub text_only : Bool → Constant → Option Constant
text_only true (Text units) = Some (Text units)
text_only _ _ = None

-- as a constant of a type, to which it is converted; only primitive types and String have constants
abbrev pub constant_at : Table → Ty → Constant → Layer → Option Constant
constant_at T t c (Ty-F.Prim q) = cast_constant q c
constant_at T t c _ = text_only (is_string T t) c

abbrev pub constant_as : Table → Ty → Constant → Option Constant
constant_as T t c = constant_at T t c (out-Ty t)

abbrev pub type_of_constant : Table → Constant → Ty
type_of_constant T (Whole n p) = Prim p
type_of_constant T (Text units) = string_type T

-- ---- the type of a conditional whose branches are numbers (JLS 15.25)

-- byte with short
abbrev pub small_sum : Primitive → Primitive → Bool
small_sum Byte Short = true
small_sum Short Byte = true
small_sum _ _ = false

-- by whether the second branch is a constant int that fits the first one's type, and the other way round
abbrev pub numeric_choice : Primitive → Primitive → Bool → Bool → Primitive
numeric_choice p q second_fits first_fits =
    if small_sum p q then Short else (if second_fits then p else (if first_fits then q else promoted_both p q))

abbrev pub is_int : Primitive → Bool
is_int Int = true
is_int _ = false

abbrev pub fits : Constant → Primitive → Primitive → Bool
fits c p q = is_int p && narrows (Some c) Int q

-- of two numbers or two booleans
abbrev pub whole_choice : Constant → Primitive → Constant → Primitive → Option Primitive
whole_choice c p d q =
    if prim_number p == prim_number q then Some p
    else (if is_boolean p || is_boolean q then None else Some (numeric_choice p q (fits d q p) (fits c p q)))

abbrev pub chosen_as : Constant → Option Primitive → Option Constant
chosen_as c None = None
chosen_as c (Some q) = cast_constant q c

abbrev pub chosen_of : Bool → Constant → Constant → Constant
chosen_of true c d = c
chosen_of false c d = d

abbrev pub chosen_constant : Bool → Constant → Constant → Option Constant
chosen_constant b (Whole n p) (Whole m q) = chosen_as (chosen_of b (Whole n p) (Whole m q)) (whole_choice (Whole n p) p (Whole m q) q)
chosen_constant b (Text xs) (Text ys) = Some (chosen_of b (Text xs) (Text ys))
chosen_constant b _ _ = None

-- the test is a boolean
abbrev pub tested : ℤ → Bool
tested n = if int_eq n (pos 0) then false else true

abbrev pub conditional_constant : Constant → Constant → Constant → Option Constant
conditional_constant (Whole n Boolean) c d = chosen_constant (tested n) c d
conditional_constant _ c d = None

-- ---- the initialisers of fields, as the table keeps them

abbrev pub from_some : {X Y : Type 0} → Option X → (X → Option Y) → Option Y
from_some None f = None
from_some (Some x) f = f x

pub record Right : Type 0 where
  pub op : Op
  pub operand : Option Constant

-- from left to right
abbrev pub chained : Option Constant → List Right → Option Constant
chained c [] = c
chained c (r ∷ rs) = chained (from_some c (λ x. from_some r.operand (λ y. fold r.op x y))) rs

-- the innermost first
abbrev pub prefixes : List Op → Option Constant → Option Constant
prefixes [] c = c
prefixes (o ∷ os) c = from_some (prefixes os c) (prefixed_constant o)

abbrev pub cast_of : ConstantType → Constant → Option Constant
cast_of (to.Prim q) c = cast_constant q c
cast_of to.Text c = text_only true c

-- the value of each form, where that of a name is known
abbrev pub constant_step : (List (List ℕ) → Option Constant) → ConstantExpr-F (Option Constant) Right → Option Constant
constant_step names (ConstantExpr-F.Literal c) = Some c
constant_step names (ConstantExpr-F.Name place parts) = names parts
constant_step names (ConstantExpr-F.Cast t of_it) = from_some of_it (cast_of t)
constant_step names (ConstantExpr-F.Prefix ops of_it) = prefixes ops of_it
constant_step names (ConstantExpr-F.Chain first rest) = chained first rest
constant_step names (ConstantExpr-F.Conditional test c d) = from_some test (λ t. from_some c (λ x. from_some d (conditional_constant t x)))

abbrev pub right_step : ConstantPart-F (Option Constant) Right → Right
right_step node = record { op = node.op; operand = node.operand }

unfoldable pub valued : (List (List ℕ) → Option Constant) → ConstantExpr → Option Constant
valued names e = fold-ConstantExpr (Option Constant) Right (constant_step names) right_step e

-- a name of a constant variable: a simple one, or one behind the name of a type
abbrev pub constant_in_sense : World → Sense → Option Constant
constant_in_sense W (OfField k is_own (f ∷ [])) = constant_field W f
constant_in_sense W _ = None

abbrev pub constant_named : World → List (List ℕ) → Option Constant
constant_named W [] = None
constant_named W (n ∷ ns) = constant_in_sense W (next_senses W (simple_sense W n) ns)

-- a value that assignment converts to the field's type (JLS 5.2)
abbrev pub if_converted : Table → Ty → Constant → Converts → Option Constant
if_converted T t c (converts.Yes k) = constant_as T t c
if_converted T t c _ = None

abbrev pub assigned_constant : Table → Ty → Constant → Option Constant
assigned_constant T t c = if_converted T t c (assignment T [] (type_of_constant T c) (Some c) t)

-- where a field's initialiser stands
abbrev pub field_world : Table → Heads → Knowledge → List (Option Constant) → ClassId → ℕ → World
field_world T H K cs k scope =
    record { table = T; heads = H; knowledge = K; constants = cs; class = k; scope = scope; here = Instance; initialising = None; locals = [] }

-- a field's value, where those of some fields are known
abbrev pub field_value : Table → Heads → Knowledge → List (Option Constant) → FieldDecl → FieldValue → Option Constant
field_value T H K cs f value.Unknown = None
field_value T H K cs f (value.Known c) = Some c
field_value T H K cs f (value.Initialiser scope e) =
    from_some (valued (constant_named (field_world T H K cs f.class scope.0)) e) (assigned_constant T f.ty.ty)

abbrev pub field_values : Table → Heads → Knowledge → List (Option Constant) → List FieldDecl → List (Option Constant)
field_values T H K cs [] = []
field_values T H K cs (f ∷ fs) = field_value T H K cs f f.value ∷ field_values T H K cs fs

-- In rounds, in each of which a field is known whose initialiser names known fields alone; a round for each field is enough. What no number of
-- rounds tells depends on itself, and is no constant variable
unfoldable pub constants_within : Table → Heads → Knowledge → ℕ → List (Option Constant)
constants_within T H K zero = []
constants_within T H K (suc n) = field_values T H K (constants_within T H K n) T.fields

unfoldable pub constants_of : Table → Heads → Knowledge → List (Option Constant)
constants_of T H K = constants_within T H K (length T.fields)
