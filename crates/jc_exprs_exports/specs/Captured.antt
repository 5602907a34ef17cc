-- The captured variables of typed expressions, in the order in which these are evaluated (JLS 5.1.10, 15.7).
use Rattle.std.specs.Prelude.{ℕ, suc, ◌+◌, ◌==◌, List, [], ◌∷◌, ◌++◌, length, if◌then◌else◌}
use Rattle.jc_types.specs.declared.form.Ty.{Ty, Ty-F, out-Ty}
use Rattle.jc_types.specs.declared.form.Arg.{Arg, Arg-F, out-Arg}
use Rattle.jc_types.specs.declared.ids.ClassId.{ClassId}
use Rattle.jc_types.specs.declared.table.Table.{Table}
use Rattle.jc_types.specs.Accessors.{vars_of}
use Rattle.jc_typed.specs.declared.lists.Capture.{Capture}
use Rattle.jc_typed.specs.Trees.{Expr, NoExpr, expr, Operand, NoOperand, operand, Form, Fixed, Null, Local, This, StaticField, Field, Element, Length, Prefix, Chain, AllOf, AnyOf, InstanceOf, Conditional, Assign, Compound, Change, Call, New, NewArray, ArrayOf, Cast, Variable, LocalVariable, StaticVariable, FieldVariable, ElementVariable, Operands, NoOperands, MoreOperands, Links, NoLinks, MoreLinks, Declared, NoDeclared, MoreDeclared, Stmt, stmt, StmtForm, Empty, Block, Locals, Effect, If, Labelled, While, Do, For, ForArray, ForIterable, Switch, Return, Break, Continue, Throw, Try, Construct, Initialise, Stmts, NoStmts, MoreStmts, Arms, NoArms, MoreArms, Catches, NoCatches, MoreCatches}

-- for each wildcard among these arguments its variable, the class, and the place among the arguments; the next variable has number n
abbrev pub wildcard_at : ClassId → ℕ → ℕ → Arg-F Arg Ty → (ℕ → List Capture) → List Capture
wildcard_at k n at (Arg-F.Exact t) rest = rest n
wildcard_at k n at _ rest = record { capture = record { 0 = n }; class = k; at = at } ∷ rest (suc n)

abbrev pub wildcards : ClassId → ℕ → ℕ → List Arg → List Capture
wildcards k n at [] = []
wildcards k n at (a ∷ args) = wildcard_at k n at (out-Arg a) (λ m. wildcards k m (suc at) args)

-- .. of a class type with as many arguments as its class has parameters, and of the parts of an intersection
abbrev pub captures_at : Table → ℕ → Ty-F Arg Ty → List Capture
captures_at T n (Ty-F.Class k args) = if length args == length (vars_of T k) then wildcards k n 0 args else []
captures_at T n _ = []

abbrev pub captures_in : Table → ℕ → List Ty → List Capture
captures_in T n [] = []
captures_in T n (t ∷ ts) = captures_at T n (out-Ty t) ++ captures_in T (n + length (captures_at T n (out-Ty t))) ts

abbrev pub captures_by : Table → ℕ → Ty-F Arg Ty → List Capture
captures_by T n (Ty-F.Meet parts) = captures_in T n parts
captures_by T n l = captures_at T n l

-- the variables that the capture of a type makes where there are n of them already
abbrev pub captures_of : Table → ℕ → Ty → List Capture
captures_of T n t = captures_by T n (out-Ty t)

abbrev mutual
  -- how many variables an expression captures, its parts' among them
  pub count_expr : Expr → ℕ
  count_expr NoExpr = 0
  count_expr (expr place ty captures form) = count_form form + length captures

  pub count_operand : Operand → ℕ
  count_operand NoOperand = 0
  count_operand (operand place of_it ss) = count_expr of_it

  -- the parts of a form
  pub count_form : Form → ℕ
  count_form (Fixed before value named casts) = count_operands before
  count_form Null = 0
  count_form (Local n) = 0
  count_form This = 0
  count_form (StaticField before f is_simple) = count_operands before
  count_form (Field of_it f) = count_operand of_it
  count_form (Element array index) = count_operand array + count_operand index
  count_form (Length array) = count_operand array
  count_form (Prefix ops of_it) = count_operand of_it
  count_form (Chain first links) = count_operand first + count_links links
  count_form (AllOf os from up_to) = count_operands os
  count_form (AnyOf os from up_to) = count_operands os
  count_form (InstanceOf of_it to) = count_operand of_it
  count_form (Conditional test first second from up_to) = count_operand test + count_operand first + count_operand second
  count_form (Assign variable value store) = count_variable variable + count_operand value
  count_form (Compound variable joint left right into) = count_variable variable + count_operand right
  count_form (Change variable op from into is_prefix) = count_variable variable
  count_form (Call kind receiver m types args phase thrown is_raw) = count_operands receiver + count_operands args
  count_form (New m args phase thrown is_raw) = count_operands args
  count_form (NewArray lengths) = count_operands lengths
  count_form (ArrayOf elements) = count_operands elements
  count_form (Cast of_it to ss is_below) = count_operand of_it

  pub count_variable : Variable → ℕ
  count_variable (LocalVariable place n) = 0
  count_variable (StaticVariable place before f is_simple) = count_operands before
  count_variable (FieldVariable place of_it f is_raw) = count_operand of_it
  count_variable (ElementVariable place array index) = count_operand array + count_operand index

  -- lists
  pub count_operands : Operands → ℕ
  count_operands NoOperands = 0
  count_operands (MoreOperands before last) = count_operands before + count_operand last

  pub count_links : Links → ℕ
  count_links NoLinks = 0
  count_links (MoreLinks before joint left right) = count_links before + count_operand right

-- initialisers of declared variables
abbrev pub count_declared : Declared → ℕ
count_declared NoDeclared = 0
count_declared (MoreDeclared before place n value) = count_declared before + count_operands value

abbrev mutual
  -- how many variables a statement captures; an enhanced `for` captures those of its elements behind its expression
  pub count_stmt : Stmt → ℕ
  count_stmt (stmt place form) = count_stmt_form form

  pub count_stmt_form : StmtForm → ℕ
  count_stmt_form Empty = 0
  count_stmt_form (Block ss) = count_stmts ss
  count_stmt_form (Locals ds) = count_declared ds
  count_stmt_form (Effect of_it) = count_operand of_it
  count_stmt_form (If arms other) = count_arms arms + count_stmts other
  count_stmt_form (Labelled target body) = count_stmt body
  count_stmt_form (While target test body) = count_operand test + count_stmt body
  count_stmt_form (Do target body test) = count_stmt body + count_operand test
  count_stmt_form (For target ds before test update body) = count_declared ds + count_operands before + count_operands test + count_operands update + count_stmt body
  count_stmt_form (ForArray target of_it ty captures ss n body) = count_operand of_it + length captures + count_stmt body
  count_stmt_form (ForIterable target of_it ty captures ss n body) = count_operand of_it + length captures + count_stmt body
  count_stmt_form (Switch target of_it cases ss) = count_operand of_it + count_stmts ss
  count_stmt_form (Return value) = count_operands value
  count_stmt_form (Break target) = 0
  count_stmt_form (Continue target) = 0
  count_stmt_form (Throw of_it) = count_operand of_it
  count_stmt_form (Try body catches last copies) = count_stmt body + count_catches catches + count_stmts last
  count_stmt_form (Construct m args phase thrown is_raw) = count_operands args
  count_stmt_form (Initialise f value) = count_operand value

  pub count_stmts : Stmts → ℕ
  count_stmts NoStmts = 0
  count_stmts (MoreStmts before last) = count_stmts before + count_stmt last

  pub count_arms : Arms → ℕ
  count_arms NoArms = 0
  count_arms (MoreArms before test body) = count_arms before + count_operand test + count_stmt body

  pub count_catches : Catches → ℕ
  count_catches NoCatches = 0
  count_catches (MoreCatches before place n types body) = count_catches before + count_stmt body
