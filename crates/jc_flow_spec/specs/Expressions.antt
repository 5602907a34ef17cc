-- What the parts of an expression throw and assign (JLS 11.2.1), the last part first.
use Rattle.std.specs.Prelude.{ℕ, ◌==◌, ℤ, pos, negsuc, Bool, true, false, List, [], ◌∷◌}
use Rattle.jc_rules.specs.declared.rule.Place.{Place}
use Rattle.jc_types.specs.declared.form.Ty.{Ty}
use Rattle.jc_types.specs.declared.constant.Constant.{Constant}
use Rattle.jc_types.specs.declared.constant.Constant.TheVariants as constant
use Rattle.jc_typed.specs.Trees.{Expr, NoExpr, expr, Operand, NoOperand, operand, Form, Fixed, Null, Local, This, StaticField, Field, Element, Length, Prefix, Chain, AllOf, AnyOf, InstanceOf, Conditional, Assign, Compound, Change, Call, New, NewArray, ArrayOf, Cast, Variable, LocalVariable, StaticVariable, FieldVariable, ElementVariable, Operands, NoOperands, MoreOperands, Links, NoLinks, MoreLinks, Declared, NoDeclared, MoreDeclared}
use Rattle.jc_flow_spec.specs.declared.flow.Flow.{Flow}
use Rattle.jc_flow_spec.specs.States.{assigns, throws}

abbrev mutual
  pub expr_flow : Expr → Flow → Flow
  expr_flow NoExpr s = s
  expr_flow (expr place ty captures form) s = form_flow place form s

  pub operand_flow : Operand → Flow → Flow
  operand_flow NoOperand s = s
  operand_flow (operand place of_it steps) s = expr_flow of_it s

  -- by the form of the expression: a call and a creation throw what they say
  pub form_flow : Place → Form → Flow → Flow
  form_flow p (Fixed before value named casts) s = operands_flow before s
  form_flow p Null s = s
  form_flow p (Local n) s = s
  form_flow p This s = s
  form_flow p (StaticField before f is_simple) s = operands_flow before s
  form_flow p (Field of_it f) s = operand_flow of_it s
  form_flow p (Element array index) s = operand_flow array (operand_flow index s)
  form_flow p (Length array) s = operand_flow array s
  form_flow p (Prefix ops of_it) s = operand_flow of_it s
  form_flow p (Chain first links) s = operand_flow first (links_flow links s)
  form_flow p (AllOf os from up_to) s = operands_flow os s
  form_flow p (AnyOf os from up_to) s = operands_flow os s
  form_flow p (InstanceOf of_it to) s = operand_flow of_it s
  form_flow p (Conditional test then other from up_to) s = operand_flow test (operand_flow then (operand_flow other s))
  form_flow p (Assign variable value store) s = variable_flow variable (operand_flow value s)
  form_flow p (Compound variable joint left right into) s = variable_flow variable (operand_flow right s)
  form_flow p (Change variable op from into is_prefix) s = variable_flow variable s
  form_flow p (Call kind receiver m types args phase thrown is_raw) s = throws p thrown (operands_flow receiver (operands_flow args s))
  form_flow p (New m args phase thrown is_raw) s = throws p thrown (operands_flow args s)
  form_flow p (NewArray lengths) s = operands_flow lengths s
  form_flow p (ArrayOf elements) s = operands_flow elements s
  form_flow p (Cast of_it to steps is_below) s = operand_flow of_it s

  -- a variable that is assigned (JLS 15.14, 15.15, 15.26)
  pub variable_flow : Variable → Flow → Flow
  variable_flow (LocalVariable place n) s = assigns n s
  variable_flow (StaticVariable place before f is_simple) s = operands_flow before s
  variable_flow (FieldVariable place of_it f is_raw) s = operand_flow of_it s
  variable_flow (ElementVariable place array index) s = operand_flow array (operand_flow index s)

  pub operands_flow : Operands → Flow → Flow
  operands_flow NoOperands s = s
  operands_flow (MoreOperands before last) s = operands_flow before (operand_flow last s)

  pub links_flow : Links → Flow → Flow
  links_flow NoLinks s = s
  links_flow (MoreLinks before joint left right) s = links_flow before (operand_flow right s)

-- the initialisers of declared variables; an initialiser isn't an assignment (JLS 14.4)
abbrev pub declared_flow : Declared → Flow → Flow
declared_flow NoDeclared s = s
declared_flow (MoreDeclared before place n value) s = declared_flow before (operands_flow value s)

-- a constant is the number n
abbrev pub is_number : ℕ → Constant → Bool
is_number n (constant.Whole (pos m) of_it) = m == n
is_number n (constant.Whole (negsuc m) of_it) = false
is_number n (constant.Text units) = false

-- a form is a constant expression (JLS 15.28) of the value n; a constant that is named through an expression isn't one
abbrev pub form_is : ℕ → Form → Bool
form_is n (Fixed NoOperands value named casts) = is_number n value
form_is n _ = false

abbrev pub expr_is : ℕ → Expr → Bool
expr_is n NoExpr = false
expr_is n (expr place ty captures form) = form_is n form

abbrev pub operand_is : ℕ → Operand → Bool
operand_is n NoOperand = false
operand_is n (operand place of_it steps) = expr_is n of_it

-- the test of a loop is a constant expression with the value true, or with the value false
unfoldable pub is_true : Operand → Bool
is_true test = operand_is 1 test

unfoldable pub is_false : Operand → Bool
is_false test = operand_is 0 test
