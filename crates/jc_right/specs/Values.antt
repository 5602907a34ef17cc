-- The erased types of values: of an operand behind its steps, and of an expression before them. A value that is read from a field, an element or a call has
-- the erasure of what is declared, until a guard has tested it (JLS 4.6).
use Rattle.std.specs.Prelude.{ℕ, Bool, true, false, ◌&&◌, List, [], ◌∷◌, Option, Some, None, slice_get, if◌then◌else◌}
use Rattle.jc_types.specs.declared.constant.Op.{Op}
use Rattle.jc_types.specs.declared.erased.Erased.{Erased}
use Rattle.jc_types.specs.declared.form.Ty.{Ty}
use Rattle.jc_types.specs.declared.form.Primitive.{Primitive}
use Rattle.jc_types.specs.declared.form.Primitive.TheVariants as primitive
use Rattle.jc_types.specs.declared.ids.FieldId.{FieldId}
use Rattle.jc_types.specs.declared.table.Table.{Table}
use Rattle.jc_types.specs.Accessors.{field_type_of, result_of}
use Rattle.jc_types.specs.Erasing.{erasure}
use Rattle.jc_heaps.specs.Classes.{element_of}
use Rattle.jc_typed.specs.declared.expressions.Joint.{Joint}
use Rattle.jc_typed.specs.declared.expressions.Joint.TheVariants.{Operator, Concat}
use Rattle.jc_typed.specs.declared.program.Boxes.{Boxes}
use Rattle.jc_typed.specs.declared.program.BoxedIn.{BoxedIn}
use Rattle.jc_typed.specs.declared.program.Known.{Known}
use Rattle.jc_typed.specs.Trees.{Step, Widen, Narrow, BoxUp, Unbox, Up, Test, Expr, NoExpr, expr, Operand, NoOperand, operand, Form, Fixed, Null, Local, This, StaticField, Field, Element, Length, Prefix, Chain, AllOf, AnyOf, InstanceOf, Conditional, Assign, Compound, Change, Call, New, NewArray, ArrayOf, Cast, Variable, LocalVariable, StaticVariable, FieldVariable, ElementVariable}
use Rattle.jc_right.specs.Going.{prim, class, nothing, goes, is_printed, operated_type, prim_of, stepped_type}

-- what an erased tree stands in: the table, what is known, the erased types of the method's variables, its erased result if it has one, and the statements round
-- the tree that `break` and `continue` may name
pub record Scene : Type 0 where
  pub table : Table
  pub known : Known
  pub locals : List Erased
  pub result : Option Erased
  pub breaks : List ℕ
  pub continues : List ℕ

-- the class of a primitive type (JLS 5.1.7)
abbrev pub box_of : Boxes → Primitive → BoxedIn
box_of boxes primitive.Boolean = boxes.boolean
box_of boxes primitive.Byte = boxes.byte
box_of boxes primitive.Short = boxes.short
box_of boxes primitive.Char = boxes.char
box_of boxes primitive.Int = boxes.int
box_of boxes primitive.Long = boxes.long

abbrev pub box_class : Scene → Primitive → Erased
box_class S p = class (box_of S.known.boxes p).class

-- the erasure of a type of an erased tree
abbrev pub erased : Scene → Ty → Erased
erased S t = erasure S.table [] t

-- A value behind a step. A step up to an erased type that the value's isn't below leaves it as it is: a guard stands there
abbrev pub behind_step : Scene → Erased → Step → Erased
behind_step S e (Widen p) = prim p
behind_step S e (Narrow p) = prim p
behind_step S e (BoxUp p) = box_class S p
behind_step S e (Unbox p) = prim p
behind_step S e (Up t unchecked) = if goes S.table e (erased S t) then erased S t else e
behind_step S e (Test check to) = to

abbrev pub behind_steps : Scene → Erased → List Step → Erased
behind_steps S e [] = e
behind_steps S e (s ∷ ss) = behind_steps S (behind_step S e s) ss

-- a declared type, erased; the null type where there is none
abbrev pub declared_type : Scene → Option Ty → Erased
declared_type S None = nothing
declared_type S (Some t) = erased S t

-- the variable of a number; the null type where there is none
abbrev pub type_or_null : Option Erased → Erased
type_or_null None = nothing
type_or_null (Some e) = e

abbrev pub local_type : Scene → ℕ → Erased
local_type S n = type_or_null (slice_get S.locals n)

abbrev pub field_erased : Scene → FieldId → Erased
field_erased S f = declared_type S (field_type_of S.table f)

-- what a joint gives between values of two types, if it takes them: string `+` a String, where `valueOf` takes both operands
abbrev pub concat_type : Scene → Bool → Option Erased
concat_type S true = Some (class S.known.string)
concat_type S false = None

abbrev pub joined_type : Scene → Joint → Erased → Erased → Option Erased
joined_type S (Operator op) e f = operated_type op e f
joined_type S (Concat left right) e f = concat_type S (is_printed left (prim_of e) && is_printed right (prim_of f))

-- no value stands behind a call of a method without a result
abbrev pub is_void_form : Table → Form → Bool
is_void_form T (Call kind receiver m types args phase thrown is_raw) = none_there (result_of T m)
  where
    none_there : Option Ty → Bool
    none_there None = true
    none_there (Some t) = false
is_void_form T form = false

abbrev pub is_void_expr : Table → Expr → Bool
is_void_expr T NoExpr = false
is_void_expr T (expr place ty captures form) = is_void_form T form

-- the tests that steps begin with, and the steps behind these
abbrev pub first_tests : List Step → List Step
first_tests [] = []
first_tests (Test check to ∷ ss) = Test check to ∷ first_tests ss
first_tests (s ∷ ss) = []

abbrev pub behind_tests : List Step → List Step
behind_tests [] = []
behind_tests (Test check to ∷ ss) = behind_tests ss
behind_tests (s ∷ ss) = s ∷ ss

-- what `++` and `--` leave: the value behind the change, or the one that was read, behind the tests that it has passed by then
abbrev pub changed_type : Scene → Op → Erased → List Step → List Step → Bool → Erased
changed_type S op e from into true = behind_steps S (type_or_null (stepped_type op (prim_of (behind_steps S e from)))) into
changed_type S op e from into false = behind_steps S e (first_tests from)

abbrev mutual
  -- an expression's value by its form; `e` is the erasure of its static type
  pub value_type : Scene → Expr → Erased
  value_type S NoExpr = nothing
  value_type S (expr place ty captures form) = form_value S (erased S ty) form

  pub operand_type : Scene → Operand → Erased
  operand_type S NoOperand = nothing
  operand_type S (operand place of_it ss) = behind_steps S (value_type S of_it) ss

  pub form_value : Scene → Erased → Form → Erased
  form_value S e (Local n) = local_type S n
  form_value S e (StaticField before f is_simple) = field_erased S f
  form_value S e (Field of_it f) = field_erased S f
  form_value S e (Element array index) = element_of (operand_type S array)
  form_value S e (Assign variable value store) = operand_type S value
  form_value S e (Compound variable joint left right into) =
      behind_steps S (type_or_null (joined_type S joint (behind_steps S (variable_type S variable) left) (operand_type S right))) into
  form_value S e (Change variable op from into is_prefix) = changed_type S op (variable_type S variable) from into is_prefix
  form_value S e (Call kind receiver m types args phase thrown is_raw) = declared_type S (result_of S.table m)
  form_value S e (Cast of_it to ss is_below) = behind_steps S (operand_type S of_it) ss
  form_value S e (Fixed before value named casts) = e
  form_value S e Null = e
  form_value S e This = e
  form_value S e (Length array) = e
  form_value S e (Prefix ops of_it) = e
  form_value S e (Chain first links) = e
  form_value S e (AllOf os from up_to) = e
  form_value S e (AnyOf os from up_to) = e
  form_value S e (InstanceOf of_it to) = e
  form_value S e (Conditional test first second from up_to) = e
  form_value S e (New m args phase thrown is_raw) = e
  form_value S e (NewArray lengths) = e
  form_value S e (ArrayOf elements) = e

  -- the erased type with which a variable is declared
  pub variable_type : Scene → Variable → Erased
  variable_type S (LocalVariable place n) = local_type S n
  variable_type S (StaticVariable place before f is_simple) = field_erased S f
  variable_type S (FieldVariable place of_it f is_raw) = field_erased S f
  variable_type S (ElementVariable place array index) = element_of (operand_type S array)
