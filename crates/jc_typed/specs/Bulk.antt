-- What a method weighs: a bound on the size of its code, summed over its tree.
use Rattle.std.specs.Prelude.{ℕ, ◌+◌, ◌-◌, ◌*◌, min, List, [], ◌∷◌, length, Option, Some, None}
use Rattle.jc_types.specs.declared.constant.Op.{Op}
use Rattle.jc_types.specs.declared.constant.Op.TheVariants.{Less, Greater, AtMost, AtLeast, Equal, NotEqual, Not}
use Rattle.jc_typed.specs.declared.expressions.Joint.{Joint}
use Rattle.jc_typed.specs.declared.expressions.Joint.TheVariants.{Operator, Concat}
use Rattle.jc_typed.specs.declared.nodes.Node.{Node}
use Rattle.jc_typed.specs.declared.program.Body.{Body}
use Rattle.jc_typed.specs.declared.program.TypedMethod.{TypedMethod}
use Rattle.jc_typed.specs.Trees.{Step, Expr, NoExpr, expr, Operand, NoOperand, operand, Form, Fixed, Null, Local, This, StaticField, Field, Element, Length, Prefix, Chain, AllOf, AnyOf, InstanceOf, Conditional, Assign, Compound, Change, Call, New, NewArray, ArrayOf, Cast, Variable, LocalVariable, StaticVariable, FieldVariable, ElementVariable, Operands, NoOperands, MoreOperands, Links, NoLinks, MoreLinks, Declared, NoDeclared, MoreDeclared, Stmt, stmt, StmtForm, Empty, Block, Locals, Effect, If, Labelled, While, Do, For, ForArray, ForIterable, Switch, Return, Break, Continue, Throw, Try, Construct, Initialise, Stmts, NoStmts, MoreStmts, Arms, NoArms, MoreArms, Catches, NoCatches, MoreCatches}
use Rattle.jc_typed.specs.Parts.{stmts_of, stmt_of}

-- what a u64 holds of a number
abbrev pub capped : ℕ → ℕ
capped n = min n 18446744073709551615

-- a conversion step or a guard weighs 4
abbrev pub steps_weight : List Step → ℕ
steps_weight ss = 4 * length ss

-- `!` and comparisons weigh 16, other operators 8, and string `+` 24
abbrev pub prefix_weight : Op → ℕ
prefix_weight Not = 16
prefix_weight _ = 8

abbrev pub prefixes_weight : List Op → ℕ
prefixes_weight [] = 0
prefixes_weight (op ∷ ops) = prefix_weight op + prefixes_weight ops

abbrev pub operator_weight : Op → ℕ
operator_weight Less = 16
operator_weight Greater = 16
operator_weight AtMost = 16
operator_weight AtLeast = 16
operator_weight Equal = 16
operator_weight NotEqual = 16
operator_weight _ = 8

abbrev pub joint_weight : Joint → ℕ
joint_weight (Operator op) = operator_weight op
joint_weight (Concat left right) = 24

-- the number of operands of a list
abbrev pub operand_count : Operands → ℕ
operand_count NoOperands = 0
operand_count (MoreOperands before last) = operand_count before + 1

-- `&&` and `||` weigh 16 for each operator, of which there is one less than operands
abbrev pub logic_weight : Operands → ℕ
logic_weight os = 16 * (operand_count os - 1)

abbrev mutual
  -- expressions, and operands with their steps: each form weighs a number of its own besides its parts
  pub expr_bulk : Expr → ℕ
  expr_bulk NoExpr = 0
  expr_bulk (expr place ty captures form) = form_bulk form

  pub operand_bulk : Operand → ℕ
  operand_bulk NoOperand = 0
  operand_bulk (operand place of_it ss) = expr_bulk of_it + steps_weight ss

  pub form_bulk : Form → ℕ
  form_bulk (Fixed before value named casts) = 4 + operands_bulk before
  form_bulk Null = 4
  form_bulk (Local n) = 4
  form_bulk This = 4
  form_bulk (StaticField before f is_simple) = 8 + operands_bulk before
  form_bulk (Field of_it f) = 8 + operand_bulk of_it
  form_bulk (Element array index) = 8 + operand_bulk array + operand_bulk index
  form_bulk (Length array) = 8 + operand_bulk array
  form_bulk (Prefix ops of_it) = prefixes_weight ops + operand_bulk of_it
  form_bulk (Chain first links) = operand_bulk first + links_bulk links
  form_bulk (AllOf os from up_to) = logic_weight os + operands_bulk os
  form_bulk (AnyOf os from up_to) = logic_weight os + operands_bulk os
  form_bulk (InstanceOf of_it to) = 8 + operand_bulk of_it
  form_bulk (Conditional test then other from up_to) = 16 + operand_bulk test + operand_bulk then + operand_bulk other
  form_bulk (Assign variable value store) = 12 + variable_bulk variable + operand_bulk value + steps_weight store
  form_bulk (Compound variable joint left right into) = 32 + variable_bulk variable + steps_weight left + operand_bulk right + steps_weight into
  form_bulk (Change variable op from into is_prefix) = 32 + variable_bulk variable + steps_weight from + steps_weight into
  form_bulk (Call kind receiver m types args phase thrown is_raw) = 12 + operands_bulk receiver + operands_bulk args
  form_bulk (New m args phase thrown is_raw) = 12 + operands_bulk args
  form_bulk (NewArray lengths) = 12 + operands_bulk lengths
  form_bulk (ArrayOf elements) = 12 + 8 * operand_count elements + operands_bulk elements
  form_bulk (Cast of_it to ss is_below) = 8 + operand_bulk of_it + steps_weight ss

  -- a variable weighs what its parts weigh; its assignment is weighed by the form that it stands in
  pub variable_bulk : Variable → ℕ
  variable_bulk (LocalVariable place n) = 0
  variable_bulk (StaticVariable place before f is_simple) = operands_bulk before
  variable_bulk (FieldVariable place of_it f is_raw) = operand_bulk of_it
  variable_bulk (ElementVariable place array index) = operand_bulk array + operand_bulk index

  -- lists weigh what their members weigh, and the operators between these
  pub operands_bulk : Operands → ℕ
  operands_bulk NoOperands = 0
  operands_bulk (MoreOperands before last) = operands_bulk before + operand_bulk last

  pub links_bulk : Links → ℕ
  links_bulk NoLinks = 0
  links_bulk (MoreLinks before joint left right) = links_bulk before + joint_weight joint + steps_weight left + operand_bulk right

-- the initialiser of a variable weighs 12 besides
abbrev pub initialiser_bulk : Operands → ℕ
initialiser_bulk NoOperands = 0
initialiser_bulk (MoreOperands before last) = 12 + operands_bulk (MoreOperands before last)

-- a variable that is declared weighs 8
abbrev pub declared_bulk : Declared → ℕ
declared_bulk NoDeclared = 0
declared_bulk (MoreDeclared before place n value) = declared_bulk before + 8 + initialiser_bulk value

abbrev mutual
  -- statements: each form weighs a number of its own besides its parts
  pub stmt_bulk : Stmt → ℕ
  stmt_bulk (stmt place form) = stmt_form_bulk form

  pub stmt_form_bulk : StmtForm → ℕ
  stmt_form_bulk Empty = 16
  stmt_form_bulk (Block ss) = 16 + stmts_bulk ss
  stmt_form_bulk (Locals ds) = 16 + declared_bulk ds
  stmt_form_bulk (Effect of_it) = 16 + operand_bulk of_it
  stmt_form_bulk (If arms other) = arms_bulk arms + stmts_bulk other
  stmt_form_bulk (Labelled target body) = 16 + stmt_bulk body
  stmt_form_bulk (While target test body) = 16 + operand_bulk test + stmt_bulk body
  stmt_form_bulk (Do target body test) = 16 + stmt_bulk body + operand_bulk test
  stmt_form_bulk (For target ds before test update body) =
      16 + declared_bulk ds + operands_bulk before + operands_bulk test + operands_bulk update + stmt_bulk body
  stmt_form_bulk (ForArray target of_it ty captures ss n body) = 72 + operand_bulk of_it + steps_weight ss + stmt_bulk body
  stmt_form_bulk (ForIterable target of_it ty captures ss n body) = 72 + operand_bulk of_it + steps_weight ss + stmt_bulk body
  stmt_form_bulk (Switch target of_it cases ss) = 24 + 8 * length cases + operand_bulk of_it + stmts_bulk ss
  stmt_form_bulk (Return value) = 16 + operands_bulk value
  stmt_form_bulk (Break target) = 16
  stmt_form_bulk (Continue target) = 16
  stmt_form_bulk (Throw of_it) = 16 + operand_bulk of_it
  stmt_form_bulk (Try body catches last copies) = 16 + stmt_bulk body + catches_bulk catches + finally_bulk copies last
  stmt_form_bulk (Construct m args phase thrown is_raw) = 28 + operands_bulk args
  stmt_form_bulk (Initialise f value) = 28 + operand_bulk value

  -- a list of statements weighs what its statements weigh
  pub stmts_bulk : Stmts → ℕ
  stmts_bulk NoStmts = 0
  stmts_bulk (MoreStmts before last) = stmts_bulk before + stmt_bulk last

  -- each `if` of a chain weighs 16
  pub arms_bulk : Arms → ℕ
  arms_bulk NoArms = 0
  arms_bulk (MoreArms before test then) = arms_bulk before + 16 + operand_bulk test + stmt_bulk then

  -- a catch clause weighs 32 for each of its types
  pub catches_bulk : Catches → ℕ
  catches_bulk NoCatches = 0
  catches_bulk (MoreCatches before place n types body) = catches_bulk before + 32 * length types + stmt_bulk body

  -- a finally block weighs as often as it is copied
  pub finally_bulk : ℕ → Stmts → ℕ
  finally_bulk copies NoStmts = 0
  finally_bulk copies (MoreStmts before last) = copies * (32 + stmts_bulk before + stmt_bulk last)

-- the call of another constructor, the initialisers and the block of a body; a method without a body has nothing to weigh
abbrev pub body_bulk : List Node → Option Body → ℕ
body_bulk nodes None = 0
body_bulk nodes (Some b) = stmts_bulk (stmts_of nodes b.call) + stmts_bulk (stmts_of nodes b.initialisers) + stmt_bulk (stmt_of nodes b.rest)

-- a method weighs 16, and 8 for each parameter that is checked on entry
abbrev pub method_bulk : TypedMethod → ℕ
method_bulk m = 16 + 8 * m.entry_checks + body_bulk m.nodes m.body
