-- The code of erased expressions, one line a form (JLS 15). It leaves its value on the stack; a call of a method without a result leaves none.
use Rattle.std.specs.Prelude.{ℕ, Bool, true, false, List, [], ◌∷◌, take, Option, Some, None}
use Rattle.jc_types.specs.declared.constant.Op.{Op}
use Rattle.jc_types.specs.declared.erased.Erased.{Erased}
use Rattle.jc_types.specs.declared.form.Primitive.TheVariants.{Boolean, Int}
use Rattle.jc_types.specs.declared.ids.MethodId.{MethodId}
use Rattle.jc_types.specs.declared.table.Table.{Table}
use Rattle.jc_heaps.specs.Classes.{element_of}
use Rattle.jc_meaning.specs.Programs.{method_class}
use Rattle.jc_typed.specs.declared.expressions.CallKind.{CallKind}
use Rattle.jc_typed.specs.declared.expressions.CallKind.TheVariants.{Static, Virtual, Direct}
use Rattle.jc_typed.specs.declared.expressions.Joint.{Joint}
use Rattle.jc_typed.specs.declared.expressions.Joint.TheVariants.{Operator, Concat}
use Rattle.jc_typed.specs.declared.expressions.Printed.{Printed}
use Rattle.jc_typed.specs.declared.expressions.Printed.TheVariants as printed
use Rattle.jc_typed.specs.declared.program.Printing.{Printing}
use Rattle.jc_typed.specs.Bulk.{operand_count}
use Rattle.jc_typed.specs.Trees.{Step, Widen, Narrow, BoxUp, Unbox, Up, Test, Expr, NoExpr, expr, Operand, NoOperand, operand, Form, Fixed, Null, Local, This, StaticField, Field, Element, Length, Prefix, Chain, AllOf, AnyOf, InstanceOf, Conditional, Assign, Compound, Change, Call, New, NewArray, ArrayOf, Cast, Variable, LocalVariable, StaticVariable, FieldVariable, ElementVariable, Operands, NoOperands, MoreOperands, Links, NoLinks, MoreLinks}
use Rattle.jc_erased.specs.declared.program.ErasedProgram.{ErasedProgram}
use Rattle.jc_right.specs.Going.{class, prim}
use Rattle.jc_right.specs.Values.{Scene, behind_step, behind_steps, behind_tests, box_of, erased, first_tests, is_void_expr, joined_type, local_type, operand_type, type_or_null, value_type, variable_type}
use Rattle.jc_right.specs.Right.{chain_type}
use Rattle.jc_code_spec.specs.Naming.{class_name}
use Rattle.jc_code_spec.specs.Pieces.{Coder, Entry, Jump, Made, Mark, New as NewPiece, Of, ◌>>◌, label, piece, skip}
use Rattle.jc_code_spec.specs.Simple.{Sort, OfInt, OfLong, alone, all_units, arithmetic_code, array_length, call, call_final, call_special, check_cast, copy, copy_below_one, copy_below_two, cut, get_element, get_field, get_static, instance_of, int_or_long, is_shift, load, narrow, new_array, new_arrays, pair_code, pop, prefix, push_constant, push_null, push_one, push_count, push_zero, put_element, put_field, put_static, sort_of, step_by_one, store, test_code, widen}

-- What code stands in: the program and what the trees of a method are typed in; how many `try`s with a finally block are round it; and whether `this` is an object whose
-- constructor ran already
pub record Setting : Type 0 where
  pub program : ErasedProgram
  pub scene : Scene
  pub depth : ℕ
  pub is_made : Bool

abbrev pub table : Setting → Table
table C = C.scene.table

-- the slot of a variable, behind those before it
abbrev pub slot : Setting → ℕ → ℕ
slot C n = all_units (take n C.scene.locals)

abbrev pub load_local : Setting → ℕ → Coder
load_local C n = load (local_type C.scene n) (slot C n)

abbrev pub store_local : Setting → ℕ → Coder
store_local C n = store (local_type C.scene n) (slot C n)

-- labels of an expression, with what stands below its value
abbrev pub mark : Setting → List Entry → ℕ → Coder
mark C below l = piece (Mark l below C.is_made)

abbrev pub jump : ℕ → ℕ → Coder
jump code l = piece (Jump code l)

-- no value stands behind a call of a method without a result
abbrev pub is_void : Table → Operand → Bool
is_void T NoOperand = false
is_void T (operand place of_it ss) = is_void_expr T of_it

abbrev pub pop_unless : Bool → Erased → Coder
pop_unless true e = skip
pop_unless false e = pop e

-- ---- steps (JLS 5.1), and guards

abbrev pub step_code : Setting → Erased → Step → Coder
step_code C e (Widen p) = widen (sort_of e) (sort_of (prim p))
step_code C e (Narrow p) = narrow (sort_of e) p
step_code C e (BoxUp p) = call C.program Static (box_of C.scene.known.boxes p).make
step_code C e (Unbox p) = call_final C.program (box_of C.scene.known.boxes p).value
step_code C e (Up t unchecked) = skip
step_code C e (Test check to) = check_cast (table C) to

abbrev pub steps_code : Setting → Erased → List Step → Coder
steps_code C e [] = skip
steps_code C e (s ∷ ss) = step_code C e s >> steps_code C (behind_step C.scene e s) ss

-- ---- booleans that are told by jumps: 1 where the label is reached, and else 0

abbrev pub truth_at : Setting → List Entry → ℕ → ℕ → Coder
truth_at C below holds end =
    push_zero >> jump 0xa7 end >> mark C below holds >> push_one OfInt >> mark C (Of (prim Boolean) ∷ below) end

-- a comparison of two values of a sort; longs are compared to an int first (JLS 15.20, 15.21)
abbrev pub compare : Setting → List Entry → Sort → Op → Coder
compare C below OfLong op = label (λ holds. label (λ end. alone 0x94 >> jump (test_code op) holds >> truth_at C below holds end))
compare C below s op = label (λ holds. label (λ end. jump (pair_code s op) holds >> truth_at C below holds end))

-- an operator by the type of its left operand: the right one of a shift is cut to an int
abbrev pub cut_if : Bool → Sort → Coder
cut_if true s = cut s
cut_if false s = skip

abbrev pub operated : Setting → List Entry → Sort → Sort → Op → Option ℕ → Coder
operated C below s t op (Some code) = cut_if (is_shift op) t >> int_or_long s code
operated C below s t op None = compare C below s op

abbrev pub operator : Setting → List Entry → Erased → Erased → Op → Coder
operator C below e f op = operated C below (sort_of e) (sort_of f) op (arithmetic_code op)

-- prefix operators, the innermost first
abbrev pub prefixes : Sort → List Op → Coder
prefixes s [] = skip
prefixes s (op ∷ ops) = prefixes s ops >> prefix s op

-- ---- strings (JLS 15.18.1)

abbrev pub printer_of : Printing → Printed → MethodId
printer_of p printed.Boolean = p.of_boolean
printer_of p printed.Char = p.of_char
printer_of p printed.Int = p.of_int
printer_of p printed.Long = p.of_long
printer_of p printed.Reference = p.of_object

abbrev pub text_code : Setting → Printed → Coder
text_code C as_it =
    call C.program Static (printer_of C.scene.known.printing as_it) >> call C.program Static C.scene.known.printing.of_object

abbrev pub string : Setting → Erased
string C = class C.scene.known.string

-- ---- a joint: the left value is on the stack, and `right` makes the other one above what stands there

abbrev pub joint_code : Setting → List Entry → Joint → Erased → Erased → (Erased → Coder) → Coder
joint_code C below (Operator op) e f right = right e >> operator C below e f op
joint_code C below (Concat left_as right_as) e f right =
    text_code C left_as >> right (string C) >> text_code C right_as >> call_final C.program C.scene.known.printing.concat

-- ---- variables: what a read and a write of one need is on the stack, and can be copied (JLS 15.26)

abbrev pub copy_parts : Variable → Coder
copy_parts (FieldVariable place of_it f is_raw) = alone 0x59
copy_parts (ElementVariable place array index) = alone 0x5c
copy_parts v = skip

abbrev pub read : Setting → Variable → Coder
read C (LocalVariable place n) = load_local C n
read C (StaticVariable place before f is_simple) = get_static (table C) f
read C (FieldVariable place of_it f is_raw) = get_field (table C) f
read C (ElementVariable place array index) = get_element (element_of (operand_type C.scene array))

-- a copy of the value on top goes below these parts
abbrev pub copy_value : Variable → Erased → Coder
copy_value (FieldVariable place of_it f is_raw) e = copy_below_one e
copy_value (ElementVariable place array index) e = copy_below_two e
copy_value v e = copy e

abbrev pub write : Setting → Variable → Coder
write C (LocalVariable place n) = store_local C n
write C (StaticVariable place before f is_simple) = put_static (table C) f
write C (FieldVariable place of_it f is_raw) = put_field (table C) f
write C (ElementVariable place array index) = put_element (element_of (operand_type C.scene array))

-- what the parts of a variable leave above what stands below
abbrev pub with_parts : Setting → List Entry → Variable → List Entry
with_parts C below (FieldVariable place of_it f is_raw) = Of (operand_type C.scene of_it) ∷ below
with_parts C below (ElementVariable place array index) = Of (prim Int) ∷ Of (operand_type C.scene array) ∷ below
with_parts C below v = below

-- what a list of operands leaves
abbrev pub with_operands : Setting → List Entry → Operands → List Entry
with_operands C below NoOperands = below
with_operands C below (MoreOperands before last) = Of (operand_type C.scene last) ∷ with_operands C below before

-- the type behind a joint, and behind the operators of a chain
abbrev pub type_joined : Setting → Joint → Erased → Operand → Erased
type_joined C joint e right = type_or_null (joined_type C.scene joint e (operand_type C.scene right))

abbrev pub type_so_far : Setting → Operand → Links → Erased
type_so_far C first before = type_or_null (chain_type C.scene (operand_type C.scene first) before)

-- `++` and `--`: what is left is the value behind the change, or a copy of the one before it, made behind the tests that its steps begin with
abbrev pub change_code : Setting → Variable → Op → Erased → List Step → List Step → Bool → Coder
change_code C v op e from into true =
    steps_code C e from >> step_by_one (sort_of (behind_steps C.scene e from)) op >> steps_code C (behind_steps C.scene e from) into >> copy_value v e
change_code C v op e from into false =
    let f = behind_steps C.scene e (first_tests from) in
    steps_code C e (first_tests from) >> copy_value v f >> steps_code C f (behind_tests from)
    >> step_by_one (sort_of (behind_steps C.scene e from)) op >> steps_code C (behind_steps C.scene e from) into

-- the receiver of a static call is dropped
abbrev pub unless_static : {A : Type 0} → CallKind → A → A → A
unless_static Static a b = a
unless_static Virtual a b = b
unless_static Direct a b = b

abbrev mutual
  pub expr_code : Setting → List Entry → Expr → Coder
  expr_code C below NoExpr = skip
  expr_code C below (expr place ty captures form) = form_code C below (erased C.scene ty) form

  -- an operand, and what is done with it where it stands
  pub operand_code : Setting → List Entry → Operand → Coder
  operand_code C below NoOperand = skip
  operand_code C below (operand place of_it ss) = expr_code C below of_it >> steps_code C (value_type C.scene of_it) ss

  -- by the form, where `e` is the erasure of the static type
  pub form_code : Setting → List Entry → Erased → Form → Coder
  form_code C below e (Fixed before value named casts) = dropped_code C below before >> push_constant value
  form_code C below e Null = push_null
  form_code C below e (Local n) = load_local C n
  form_code C below e This = load_local C 0
  form_code C below e (StaticField before f is_simple) = dropped_code C below before >> get_static (table C) f
  form_code C below e (Field of_it f) = operand_code C below of_it >> get_field (table C) f
  form_code C below e (Element array index) =
      operand_code C below array >> operand_code C (Of (operand_type C.scene array) ∷ below) index >> get_element (element_of (operand_type C.scene array))
  form_code C below e (Length array) = operand_code C below array >> array_length
  form_code C below e (Prefix ops of_it) = operand_code C below of_it >> prefixes (sort_of (operand_type C.scene of_it)) ops
  form_code C below e (Chain first links) = operand_code C below first >> links_code C below first links
  form_code C below e (AllOf os from up_to) =
      label (λ fails. label (λ end. tests_code C below 0x99 fails os >> push_one OfInt >> jump 0xa7 end >> mark C below fails >> push_zero >> mark C (Of (prim Boolean) ∷ below) end))
  form_code C below e (AnyOf os from up_to) = label (λ holds. label (λ end. tests_code C below 0x9a holds os >> truth_at C below holds end))
  form_code C below e (InstanceOf of_it to) = operand_code C below of_it >> instance_of (table C) to
  form_code C below e (Conditional test first second from up_to) =
      label (λ fails. label (λ end.
      operand_code C below test >> jump 0x99 fails >> operand_code C below first >> jump 0xa7 end
      >> mark C below fails >> operand_code C below second >> mark C (Of e ∷ below) end))
  form_code C below e (Assign variable value guards) =
      parts_code C below variable >> operand_code C (with_parts C below variable) value >> copy_value variable (operand_type C.scene value)
      >> steps_code C (operand_type C.scene value) guards >> write C variable
  form_code C below e (Compound variable joint left right into) =
      let f = behind_steps C.scene (variable_type C.scene variable) left in
      parts_code C below variable >> copy_parts variable >> read C variable >> steps_code C (variable_type C.scene variable) left
      >> joint_code C (with_parts C below variable) joint f (operand_type C.scene right) (λ g. operand_code C (Of g ∷ with_parts C below variable) right)
      >> steps_code C (type_joined C joint f right) into >> copy_value variable (variable_type C.scene variable) >> write C variable
  form_code C below e (Change variable op from into is_prefix) =
      parts_code C below variable >> copy_parts variable >> read C variable >> change_code C variable op (variable_type C.scene variable) from into is_prefix
      >> write C variable
  form_code C below e (Call kind receiver m types args phase thrown is_raw) =
      unless_static kind (dropped_code C below receiver) (operands_code C below receiver)
      >> operands_code C (unless_static kind below (with_operands C below receiver)) args >> call C.program kind m
  form_code C below e (New m args phase thrown is_raw) =
      label (λ l. piece (NewPiece l (class_name (table C) (method_class (table C) m))) >> alone 0x59
      >> operands_code C (Made l ∷ Made l ∷ below) args >> call_special C.program m)
  form_code C below e (NewArray lengths) = operands_code C below lengths >> new_arrays (table C) e (operand_count lengths)
  form_code C below e (ArrayOf elements) = push_count (operand_count elements) >> new_array (table C) e >> elements_code C below e elements
  form_code C below e (Cast of_it to ss is_below) = operand_code C below of_it >> steps_code C (operand_type C.scene of_it) ss

  -- the parts of a variable
  pub parts_code : Setting → List Entry → Variable → Coder
  parts_code C below (LocalVariable place n) = skip
  parts_code C below (StaticVariable place before f is_simple) = dropped_code C below before
  parts_code C below (FieldVariable place of_it f is_raw) = operand_code C below of_it
  parts_code C below (ElementVariable place array index) = operand_code C below array >> operand_code C (Of (operand_type C.scene array) ∷ below) index

  -- operands one above the other; one by one and dropped; and as tests, each of which jumps to the label where it tells the whole
  pub operands_code : Setting → List Entry → Operands → Coder
  operands_code C below NoOperands = skip
  operands_code C below (MoreOperands before last) = operands_code C below before >> operand_code C (with_operands C below before) last

  pub dropped_code : Setting → List Entry → Operands → Coder
  dropped_code C below NoOperands = skip
  dropped_code C below (MoreOperands before last) =
      dropped_code C below before >> operand_code C below last >> pop_unless (is_void (table C) last) (operand_type C.scene last)

  pub tests_code : Setting → List Entry → ℕ → ℕ → Operands → Coder
  tests_code C below code to NoOperands = skip
  tests_code C below code to (MoreOperands before last) = tests_code C below code to before >> operand_code C below last >> jump code to

  -- the elements of an array that is on the stack, each stored before the next one
  pub elements_code : Setting → List Entry → Erased → Operands → Coder
  elements_code C below e NoOperands = skip
  elements_code C below e (MoreOperands before last) =
      elements_code C below e before >> alone 0x59 >> push_count (operand_count before)
      >> operand_code C (Of (prim Int) ∷ Of e ∷ Of e ∷ below) last >> put_element (element_of e)

  -- the operators of a chain group to the left (JLS 15.7.3)
  pub links_code : Setting → List Entry → Operand → Links → Coder
  links_code C below first NoLinks = skip
  links_code C below first (MoreLinks before joint left right) =
      let e = type_so_far C first before in
      links_code C below first before >> steps_code C e left
      >> joint_code C below joint (behind_steps C.scene e left) (operand_type C.scene right) (λ g. operand_code C (Of g ∷ below) right)
