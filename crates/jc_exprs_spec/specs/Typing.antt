-- The typing of an expression in a body, or the rules that are broken in it (JLS 15): one row for each form.
use Rattle.std.specs.Prelude.{ℕ, ◌+◌, not, nat_lt, nat_le, Bool, true, false, ℤ, pos, List, [], ◌∷◌, length, map, Option, Some, None}
use Rattle.std.specs.Int.{w32, w64, cast_signed}
use Rattle.jc_rules.specs.declared.rule.Place.{Place}
use Rattle.jc_rules.specs.declared.rule.Refusal.{Refusal}
use Rattle.jc_tree.specs.declared.expression.ArrayInit.{ArrayInit, ArrayInit-F, fold-ArrayInit}
use Rattle.jc_tree.specs.declared.expression.AssignOp.{AssignOp}
use Rattle.jc_tree.specs.declared.expression.AssignOp.TheVariants as assign
use Rattle.jc_tree.specs.declared.expression.BinaryOp.{BinaryOp}
use Rattle.jc_tree.specs.declared.expression.BinaryOp.TheVariants as binary
use Rattle.jc_tree.specs.declared.expression.Creation.{Creation, Creation-F, fold-Creation}
use Rattle.jc_tree.specs.declared.expression.Expr.{Expr, Expr-F, fold-Expr}
use Rattle.jc_tree.specs.declared.expression.Init.{Init, Init-F, fold-Init}
use Rattle.jc_tree.specs.declared.expression.Literal.{Literal}
use Rattle.jc_tree.specs.declared.expression.Literal.TheVariants as literal
use Rattle.jc_tree.specs.declared.expression.Operand.{Operand, Operand-F, fold-Operand}
use Rattle.jc_tree.specs.declared.expression.PostfixOp.{PostfixOp}
use Rattle.jc_tree.specs.declared.expression.PostfixOp.TheVariants as postfix
use Rattle.jc_tree.specs.declared.expression.PrefixOp.{PrefixOp}
use Rattle.jc_tree.specs.declared.expression.PrefixSign.{PrefixSign}
use Rattle.jc_tree.specs.declared.expression.PrefixSign.TheVariants as sign
use Rattle.jc_tree.specs.declared.types.TypeTree.{TypeTree}
use Rattle.jc_types.specs.declared.constant.Constant.{Constant}
use Rattle.jc_types.specs.declared.constant.Constant.TheVariants as constant
use Rattle.jc_types.specs.declared.constant.Op.{Op}
use Rattle.jc_types.specs.declared.constant.Op.TheVariants as op
use Rattle.jc_types.specs.declared.environment.Bounds.{Bounds}
use Rattle.jc_types.specs.declared.form.Primitive.TheVariants.{Boolean, Char, Int, Long}
use Rattle.jc_types.specs.declared.form.Ty.{Ty}
use Rattle.jc_types.specs.declared.form.Ty.TheVariants.{NullTy, Prim}
use Rattle.jc_types.specs.declared.table.Table.{Table}
use Rattle.jc_types.specs.Arrays.{element}
use Rattle.jc_types.specs.Breaks.{IsOf}
use Rattle.jc_overriding.specs.Viewing.{with_dims}
use Rattle.jc_typed.specs.Trees.{Operand as Operated, NoOperands, ArrayOf, Null, StmtForm, Construct}
use Rattle.jc_resolve.specs.declared.choice.Chosen.{Chosen}
use Rattle.jc_exprs_nodes_spec.specs.Told.{Run, fine, by_rule, breaks, both, feeding, onward, every, provided, unless, spanned}
use Rattle.jc_exprs_nodes_spec.specs.Typeds.{Typed, node, fixed, is_void, operands_of, plain}
use Rattle.jc_exprs_parts_spec.specs.Operators.{string_type}
use Rattle.jc_exprs_parts_spec.specs.Chains.{Joined, Whole, whole, joining, tested, Signed, Unsigned, signed, signing}
use Rattle.jc_exprs_parts_spec.specs.Assigning.{Target, changed, compound, stored}
use Rattle.jc_exprs_parts_spec.specs.Names.{Located, Meaning, Value, element_of, first_meant, located_behind, next_meant, simple_located, super_member, target_of, this_value, value_of}
use Rattle.jc_exprs_spec.specs.Calls.{arguments, asked, call_here, call_on, call_super, choosing}
use Rattle.jc_exprs_parts_spec.specs.Values.{assigned, cast_to, chosen, listed, sized}
use Rattle.jc_exprs_spec.specs.Creations.{constructors, created, is_raw_type}
use Rattle.jc_exprs_parts_spec.specs.Worlds.{World, at, written, written_base, written_class}

-- What is made of an expression: where it begins; its typing, by the type that its value is assigned to, if it is; the same of an expression that is a
-- statement, which may be a call without a result (JLS 14.8), and of the operand of a minus (JLS 3.10.1); what it means before a point (JLS 6.5); and the
-- variable that it is, or 610.
pub record Node : Type 0 where
  pub start : Place
  pub run : Option Ty → Run Typed
  pub effect : Run Typed
  pub negated : Run Typed
  pub meaning : Run Meaning
  pub located : Run Located

abbrev pub as_meaning : Run Typed → Run Meaning
as_meaning m = onward m (λ t. fine (Value t))

abbrev pub no_variable : Run Typed → Run Located
no_variable m = onward m (λ t. by_rule 610 t.place)

-- a value that is no variable, and has no target
abbrev pub value_node : Place → Run Typed → Node
value_node place m = record { start = place; run = λ target. m; effect = m; negated = m; meaning = as_meaning m; located = no_variable m }

-- a variable, with what it means before a point
abbrev pub variable_node : World → Place → Run Located → Run Meaning → Node
variable_node W place l meaning =
    record { start = place; run = λ target. onward l (value_of W); effect = onward l (value_of W); negated = onward l (value_of W); meaning = meaning; located = l }

-- a call: one of a method without a result has no value (609 at the call)
abbrev pub with_value : Table → Typed → Run Typed
with_value T t = provided (unless (not (is_void T t)) 609 t.place) (fine t)

abbrev pub call_node : World → Place → (Option Ty → Run Typed) → Node
call_node W place f =
    record {
      start = place;
      run = λ target. onward (f target) (with_value W.table);
      effect = f None;
      negated = onward (f None) (with_value W.table);
      meaning = as_meaning (onward (f None) (with_value W.table));
      located = no_variable (onward (f None) (with_value W.table));
    }

-- a creation
abbrev pub aimed_node : Place → (Option Ty → Run Typed) → Node
aimed_node place f =
    record { start = place; run = f; effect = f None; negated = f None; meaning = as_meaning (f None); located = no_variable (f None) }

-- parentheses pass the target on (JLS 15.8.5); what they stand round begins with them where it is converted
abbrev pub restarted : Place → Typed → Run Typed
restarted place t = fine (record t { start = place })

abbrev pub paren_node : Place → Node → Node
paren_node place n =
    record {
      start = place;
      run = λ target. onward (n.run target) (restarted place);
      effect = onward (n.run None) (restarted place);
      negated = onward (n.run None) (restarted place);
      meaning = as_meaning (onward (n.run None) (restarted place));
      located = n.located;
    }

-- forms that are left out are refused before (203)
abbrev pub left_out : Place → Node
left_out place = value_node place (by_rule 203 place)

-- ---- literals (JLS 3.10, 15.8.1): 601 where the value is out of range

abbrev pub whole_fixed : Place → Constant → Typed
whole_fixed place (constant.Whole n p) = fixed place (Prim p) (record { value = constant.Whole n p; named = []; casts = [] })
whole_fixed place c = fixed place NullTy (record { value = c; named = []; casts = [] })

abbrev pub if_within : Bool → Place → Constant → Run Typed
if_within true place c = fine (whole_fixed place c)
if_within false place c = by_rule 601 place

-- a decimal literal is no negative number; one of another base stands for bits
abbrev pub number : Place → ℕ → Bool → Bool → Run Typed
number place n true true = if_within (nat_lt n 9223372036854775808) place (constant.Whole (pos n) Long)
number place n true false = if_within (nat_lt n 18446744073709551616) place (constant.Whole (cast_signed w64 n) Long)
number place n false true = if_within (nat_lt n 2147483648) place (constant.Whole (pos n) Int)
number place n false false = if_within (nat_lt n 4294967296) place (constant.Whole (cast_signed w32 n) Int)

abbrev pub truth : Bool → ℤ
truth true = pos 1
truth false = pos 0

abbrev pub literal_value : World → Place → Literal → Run Typed
literal_value W place (literal.Number n long decimal) = number place n long decimal
literal_value W place (literal.Char n) = fine (whole_fixed place (constant.Whole (pos n) Char))
literal_value W place (literal.String units) = fine (fixed place (string_type W.table) (record { value = constant.Text units; named = []; casts = [] }))
literal_value W place (literal.Boolean b) = fine (whole_fixed place (constant.Whole (truth b) Boolean))
literal_value W place literal.Null = fine (node place NullTy Null)

-- behind a minus the greatest decimal literal is one more
abbrev pub negated_number : Place → ℕ → Bool → Bool → Run Typed
negated_number place n true true = if_within (nat_le n 9223372036854775808) place (constant.Whole (cast_signed w64 n) Long)
negated_number place n false true = if_within (nat_le n 2147483648) place (constant.Whole (cast_signed w32 n) Int)
negated_number place n long false = number place n long false

abbrev pub negated_literal : World → Place → Literal → Run Typed
negated_literal W place (literal.Number n long decimal) = negated_number place n long decimal
negated_literal W place l = literal_value W place l

abbrev pub literal_node : World → Place → Literal → Node
literal_node W place l = record (value_node place (literal_value W place l)) { negated = negated_literal W place l }

-- ---- variables that are assigned

abbrev pub started : Place → Target → Run Target
started place v = fine (record v { start = place })

abbrev pub target : World → Node → Run Target
target W n = onward n.located (λ l. onward (target_of W l) (started n.start))

-- ---- assignments (JLS 15.26): the right side is asked by the type of the left one, where that is told

abbrev pub operator_of : AssignOp → Option BinaryOp
operator_of assign.Plain = None
operator_of assign.Plus = Some binary.Plus
operator_of assign.Minus = Some binary.Minus
operator_of assign.Times = Some binary.Times
operator_of assign.Divide = Some binary.Divide
operator_of assign.Remainder = Some binary.Remainder
operator_of assign.And = Some binary.And
operator_of assign.Or = Some binary.Or
operator_of assign.Xor = Some binary.Xor
operator_of assign.ShiftLeft = Some binary.ShiftLeft
operator_of assign.ShiftRight = Some binary.ShiftRight
operator_of assign.ShiftRightZero = Some binary.ShiftRightZero

abbrev pub aimed : Option Target → Option Ty
aimed None = None
aimed (Some v) = Some v.ty

abbrev pub assignment : World → Node → Option BinaryOp → Node → Run Typed
assignment W left None right = onward (feeding (target W left) (λ v. right.run (aimed v))) (λ p. stored W.table p.0 p.1)
assignment W left (Some o) right = onward (both (target W left) (right.run None)) (λ p. compound W.table o p.0 p.1)

-- ---- conditionals (JLS 15.25)

abbrev pub conditional : World → Node → Node → Node → Run Typed
conditional W test a b =
    onward (both (test.run None) (spanned (both (a.run None) (b.run None)))) (λ p. chosen W.table p.0 p.1)

-- ---- chains of binary operators (JLS 15.7.3)

-- an operator of a chain with what stands on its right
pub data Further : Type 0 where
  Binary : BinaryOp → Run Typed → Further
  InstanceOf : TypeTree → Further

abbrev pub joined_more : World → Run Joined → Further → Run Joined
joined_more W m (Binary o r) = onward (both m (spanned r)) (λ p. joining W.table o p.0 p.1)
joined_more W m (InstanceOf t) = onward m (tested W.table (written W t))

abbrev pub joined_all : World → Run Joined → List Further → Run Joined
joined_all W m [] = m
joined_all W m (f ∷ fs) = joined_all W (joined_more W m f) fs

abbrev pub chain : World → Run Typed → List Further → Run Typed
chain W first rest = onward (joined_all W (onward first (λ t. fine (Whole t))) rest) (λ j. fine (whole j))

-- ---- prefix operators, `++` and `--` among them (JLS 15.15): the innermost comes first

-- what stands behind an operator
pub record Ahead : Type 0 where
  pub signs : Run Signed
  pub variable : Run Target

abbrev pub ahead_of : Run Signed → Ahead
ahead_of m = record { signs = m; variable = onward m (λ s. by_rule 610 (signed s).place) }

abbrev pub increment_ahead : World → Place → Op → Ahead → Ahead
increment_ahead W place o a = ahead_of (onward (onward a.variable (changed W.table place o true)) (λ t. fine (Unsigned t)))

abbrev pub ahead_by : World → Place → PrefixSign → Ahead → Ahead
ahead_by W place sign.Increment a = increment_ahead W place op.Increment a
ahead_by W place sign.Decrement a = increment_ahead W place op.Decrement a
ahead_by W place sign.Plus a = ahead_of (onward a.signs (signing W.table place op.Positive))
ahead_by W place sign.Minus a = ahead_of (onward a.signs (signing W.table place op.Negative))
ahead_by W place sign.Not a = ahead_of (onward a.signs (signing W.table place op.Not))
ahead_by W place sign.Complement a = ahead_of (onward a.signs (signing W.table place op.Complement))

-- the operand itself; a minus that stands at it allows the greatest literal
abbrev pub operand_run : PrefixSign → Node → Run Typed
operand_run sign.Minus n = n.negated
operand_run _ n = n.run None

abbrev pub operand_ahead : World → PrefixSign → Node → Ahead
operand_ahead W s n = record { signs = onward (operand_run s n) (λ t. fine (Unsigned t)); variable = target W n }

abbrev pub prefixed : World → PrefixOp → List PrefixOp → Node → Ahead
prefixed W p [] n = ahead_by W (at W p.at) p.sign (operand_ahead W p.sign n)
prefixed W p (q ∷ ps) n = ahead_by W (at W p.at) p.sign (prefixed W q ps n)

-- ---- `++` and `--` behind a variable (JLS 15.14)

abbrev pub postfix_op : PostfixOp → Op
postfix_op postfix.Increment = op.Increment
postfix_op postfix.Decrement = op.Decrement

-- ---- array initialisers (JLS 10.6), by the type that is wanted; where it isn't known their values are asked without one

abbrev pub element_of_some : Option Ty → Option Ty
element_of_some None = None
element_of_some (Some t) = element t

abbrev pub given_to : World → Option Ty → Node → Run Operated
given_to W None n = onward (n.run None) (λ t. fine (plain t))
given_to W (Some t) n = onward (n.run (Some t)) (assigned W.table t)

abbrev pub listed_as : World → Place → Option Ty → List Operated → Run Typed
listed_as W place None os = fine (node place NullTy (ArrayOf (operands_of os NoOperands)))
listed_as W place (Some t) os = listed W.table place t os

-- ---- the steps of the fold

-- a creation by the place of `new`, and an initialiser by the type that is wanted
abbrev pub Created : Type 0
Created = Place → Option Ty → Run Typed

-- an array initialiser: the place of its brace, and its array by the place at which that is created and the type that is wanted
pub record Listing : Type 0 where
  pub start : Place
  pub run : Place → Option Ty → Run Typed

abbrev pub Given : Type 0
Given = Option Ty → Run Operated

abbrev pub runs : List Node → List (Run Typed)
runs ns = map (λ (n : Node). n.run None) ns

abbrev pub givens : Option Ty → List Given → List (Run Operated)
givens t is = map (λ (i : Given). i t) is

-- objects and arrays (JLS 15.9, 15.10)
abbrev pub creation_step : World → Creation-F Created Node Given Further Listing → Created
creation_step W (Creation-F.Object class diamond actuals body) =
    λ place wanted. onward (every (runs actuals)) (λ ts. created W place (written_class W class) diamond wanted ts)
creation_step W (Creation-F.Sized element first more dims) =
    λ place wanted. onward (every (runs (first ∷ more))) (λ ts. sized W.table place (with_dims (length more + 1 + dims) (written_base W element)) ts)
creation_step W (Creation-F.Initialised element dims init) = λ place wanted. init.run place (Some (with_dims (dims + 1) (written_base W element)))

abbrev pub init_step : World → Init-F Created Node Given Further Listing → Given
init_step W (Init-F.Value it) = λ wanted. given_to W wanted it
init_step W (Init-F.Nested it) = λ wanted. onward (it.run it.start wanted) (λ t. fine (plain t))

abbrev pub operand_step : Operand-F Created Node Given Further Listing → Further
operand_step (Operand-F.Binary o right) = Binary o (right.run None)
operand_step (Operand-F.InstanceOf ty) = InstanceOf ty

abbrev pub array_step : World → ArrayInit-F Created Node Given Further Listing → Listing
array_step W n =
    record { start = at W n.at; run = λ place wanted. onward (every (givens (element_of_some wanted) n.inits)) (listed_as W place wanted) }

abbrev pub expr_step : World → Expr-F Created Node Given Further Listing → Node
expr_step W (Expr-F.Assign left o right) = value_node left.start (assignment W left (operator_of o) right)
expr_step W (Expr-F.Conditional test then' otherwise) = value_node test.start (conditional W test then' otherwise)
expr_step W (Expr-F.Chain first rest) = value_node first.start (chain W (first.run None) rest)
expr_step W (Expr-F.Prefix first more operand) =
    value_node (at W first.at) (onward (prefixed W first more operand).signs (λ s. fine (signed s)))
expr_step W (Expr-F.Cast n ty operand) = value_node (at W n) (onward (operand.run None) (cast_to W.table (at W n) (written W ty)))
expr_step W (Expr-F.Postfix of_it o) = value_node of_it.start (onward (target W of_it) (changed W.table of_it.start (postfix_op o) false))
expr_step W (Expr-F.Field of_it name) =
    variable_node W of_it.start (onward of_it.meaning (located_behind W of_it.start name.text)) (onward of_it.meaning (next_meant W of_it.start name.text))
expr_step W (Expr-F.Call of_it type_args name actuals) =
    call_node W of_it.start
    (λ wanted. onward (both (onward of_it.meaning (asked W)) (every (runs actuals))) (λ p. call_on W of_it.start name.text type_args wanted p.0 p.1))
expr_step W (Expr-F.Index of_it index) =
    element_node (onward (both (of_it.run None) (index.run None)) (λ p. element_of W p.0 p.1))
  where
    element_node : Run Located → Node
    element_node l = variable_node W of_it.start l (as_meaning (onward l (value_of W)))
expr_step W (Expr-F.InnerNew of_it creation) = left_out of_it.start
expr_step W (Expr-F.Literal n value) = literal_node W (at W n) value
expr_step W (Expr-F.This n) = value_node (at W n) (this_value W (at W n))
expr_step W (Expr-F.SuperField n name) =
    variable_node W (at W n) (super_member W (at W n) name.text) (as_meaning (onward (super_member W (at W n) name.text) (value_of W)))
expr_step W (Expr-F.SuperCall n type_args name actuals) =
    call_node W (at W n) (λ wanted. onward (every (runs actuals)) (λ ts. call_super W (at W n) name.text type_args wanted ts))
expr_step W (Expr-F.Paren n inner) = paren_node (at W n) inner
expr_step W (Expr-F.Name it) = variable_node W (at W it.at) (simple_located W (at W it.at) it.text) (first_meant W (at W it.at) it.text)
expr_step W (Expr-F.Invoke name actuals) =
    call_node W (at W name.at) (λ wanted. onward (every (runs actuals)) (λ ts. call_here W (at W name.at) name.text wanted ts))
expr_step W (Expr-F.New n creation) = aimed_node (at W n) (creation (at W n))
expr_step W (Expr-F.ClassLiteral ty) = left_out (at W 0)
expr_step W (Expr-F.VoidLiteral n) = left_out (at W n)
expr_step W (Expr-F.OuterThis first more) = left_out (at W first.at)

-- ---- what is made of an expression, and of what expressions consist of

unfoldable pub made_creation : World → Creation → Created
made_creation W e =
    fold-Creation Created Node Given Further Listing (creation_step W) (expr_step W) (init_step W) operand_step (array_step W) e

unfoldable pub made : World → Expr → Node
made W e = fold-Expr Created Node Given Further Listing (creation_step W) (expr_step W) (init_step W) operand_step (array_step W) e

unfoldable pub made_init : World → Init → Given
made_init W e = fold-Init Created Node Given Further Listing (creation_step W) (expr_step W) (init_step W) operand_step (array_step W) e

unfoldable pub made_operand : World → Operand → Further
made_operand W e =
    fold-Operand Created Node Given Further Listing (creation_step W) (expr_step W) (init_step W) operand_step (array_step W) e

unfoldable pub made_array : World → ArrayInit → Listing
made_array W e =
    fold-ArrayInit Created Node Given Further Listing (creation_step W) (expr_step W) (init_step W) operand_step (array_step W) e

-- ---- in words for the layers above

-- an expression whose value is used, and assigned to a type or not
unfoldable pub typing : World → Option Ty → Expr → Run Typed
typing W wanted e = (made W e).run wanted

-- an expression that is a statement
unfoldable pub effect : World → Expr → Run Typed
effect W e = (made W e).effect

-- an initialiser of a variable of a type (JLS 8.3, 14.4)
unfoldable pub initialised : World → Ty → Init → Run Operated
initialised W t i = made_init W i (Some t)

-- the call of another constructor, of this class or of its superclass (JLS 8.8.7.1)
abbrev pub constructed_with : World → Place → Ty → List Typed → Chosen → Run StmtForm
constructed_with W place t ts c env =
    fine (Construct c.member.id (arguments W.table env place ts c) c.phase c.thrown (is_raw_type t)) env

unfoldable pub constructed : World → Place → Ty → List Expr → Run StmtForm
constructed W place t es =
    onward (every (runs (map (made W) es))) (λ ts. choosing W place t [] (constructors W.table t false) [] ts None (constructed_with W place t ts))

-- a node of the expression breaks this rule
abbrev pub Breaks : World → Option Ty → List Bounds → Expr → Refusal → Type 0
Breaks W wanted env e b = IsOf b (breaks (typing W wanted e env).told)
