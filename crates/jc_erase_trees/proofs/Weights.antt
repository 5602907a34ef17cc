-- What trees weigh says nothing of their types.
use Rattle.std.proofs.Common.{◌≡◌, ℕ, ◌*◌, List, length, refl, ap}
use Rattle.std.proofs.lemmas.List.{length-map}
use Rattle.jc_types.specs.declared.form.Ty.{Ty}
use Rattle.jc_typed.specs.Bulk.{steps_weight, operand_count, logic_weight, expr_bulk, operand_bulk, form_bulk, variable_bulk, operands_bulk, links_bulk, initialiser_bulk, declared_bulk, stmt_bulk, stmt_form_bulk, stmts_bulk, arms_bulk, catches_bulk, finally_bulk}
use Rattle.jc_typed.specs.Trees.{Step, Expr, NoExpr, expr, Operand, NoOperand, operand, Form, Fixed, Null, Local, This, StaticField, Field, Element, Length, Prefix, Chain, AllOf, AnyOf, InstanceOf, Conditional, Assign, Compound, Change, Call, New, NewArray, ArrayOf, Cast, Variable, LocalVariable, StaticVariable, FieldVariable, ElementVariable, Operands, NoOperands, MoreOperands, Links, NoLinks, MoreLinks, Declared, NoDeclared, MoreDeclared, Stmt, stmt, StmtForm, Empty, Block, Locals, Effect, If, Labelled, While, Do, For, ForArray, ForIterable, Switch, Return, Break, Continue, Throw, Try, Construct, Initialise, Stmts, NoStmts, MoreStmts, Arms, NoArms, MoreArms, Catches, NoCatches, MoreCatches}
use Rattle.jc_erase_trees.specs.Trees.{become_types, become_step, become_steps, become_expr, become_operand, become_form, become_variable, become_operands, become_links, become_declared, become_stmt, become_stmt_form, become_stmts, become_arms, become_catches}

module _ (g : Ty → Ty) where
  steps_same : (ss : List Step) → steps_weight (become_steps g ss) ≡ steps_weight ss
  steps_same ss = ap (λ (k : ℕ). 4 * k) (length-map ss (become_step g))

  count_same : (os : Operands) → operand_count (become_operands g os) ≡ operand_count os
  count_same NoOperands = refl
  count_same (MoreOperands before last) = rw (count_same before) refl

  logic_same : (os : Operands) → logic_weight (become_operands g os) ≡ logic_weight os
  logic_same os = rw (count_same os) refl

  mutual
    expr_same : (x : Expr) → expr_bulk (become_expr g x) ≡ expr_bulk x
    expr_same NoExpr = refl
    expr_same (expr place ty captures form) = form_same form

    operand_same : (x : Operand) → operand_bulk (become_operand g x) ≡ operand_bulk x
    operand_same NoOperand = refl
    operand_same (operand place of_it ss) = rw (expr_same of_it, steps_same ss) refl

    form_same : (x : Form) → form_bulk (become_form g x) ≡ form_bulk x
    form_same (Fixed before value named casts) = rw (operands_same before) refl
    form_same Null = refl
    form_same (Local n) = refl
    form_same This = refl
    form_same (StaticField before x is_simple) = rw (operands_same before) refl
    form_same (Field of_it x) = rw (operand_same of_it) refl
    form_same (Element array index) = rw (operand_same array, operand_same index) refl
    form_same (Length array) = rw (operand_same array) refl
    form_same (Prefix ops of_it) = rw (operand_same of_it) refl
    form_same (Chain first links) = rw (operand_same first, links_same links) refl
    form_same (AllOf os from up_to) = rw (logic_same os, operands_same os) refl
    form_same (AnyOf os from up_to) = rw (logic_same os, operands_same os) refl
    form_same (InstanceOf of_it to) = rw (operand_same of_it) refl
    form_same (Conditional test first other from up_to) = rw (operand_same test, operand_same first, operand_same other) refl
    form_same (Assign variable value store) = rw (variable_same variable, operand_same value, steps_same store) refl
    form_same (Compound variable joint left right into) = rw (variable_same variable, steps_same left, operand_same right, steps_same into) refl
    form_same (Change variable op from into is_prefix) = rw (variable_same variable, steps_same from, steps_same into) refl
    form_same (Call kind receiver m types args phase thrown is_raw) = rw (operands_same receiver, operands_same args) refl
    form_same (New m args phase thrown is_raw) = rw (operands_same args) refl
    form_same (NewArray lengths) = rw (operands_same lengths) refl
    form_same (ArrayOf elements) = rw (count_same elements, operands_same elements) refl
    form_same (Cast of_it to ss is_below) = rw (operand_same of_it, steps_same ss) refl

    variable_same : (x : Variable) → variable_bulk (become_variable g x) ≡ variable_bulk x
    variable_same (LocalVariable place n) = refl
    variable_same (StaticVariable place before x is_simple) = operands_same before
    variable_same (FieldVariable place of_it x is_raw) = operand_same of_it
    variable_same (ElementVariable place array index) = rw (operand_same array, operand_same index) refl

    operands_same : (x : Operands) → operands_bulk (become_operands g x) ≡ operands_bulk x
    operands_same NoOperands = refl
    operands_same (MoreOperands before last) = rw (operands_same before, operand_same last) refl

    links_same : (x : Links) → links_bulk (become_links g x) ≡ links_bulk x
    links_same NoLinks = refl
    links_same (MoreLinks before joint left right) = rw (links_same before, steps_same left, operand_same right) refl

  initialiser_same : (x : Operands) → initialiser_bulk (become_operands g x) ≡ initialiser_bulk x
  initialiser_same NoOperands = refl
  initialiser_same (MoreOperands before last) = rw (operands_same before, operand_same last) refl

  declared_same : (x : Declared) → declared_bulk (become_declared g x) ≡ declared_bulk x
  declared_same NoDeclared = refl
  declared_same (MoreDeclared before place n value) = rw (declared_same before, initialiser_same value) refl

  types_same : (ts : List Ty) → length (become_types g ts) ≡ length ts
  types_same ts = length-map ts g

  mutual
    pub stmt_same : (x : Stmt) → stmt_bulk (become_stmt g x) ≡ stmt_bulk x
    stmt_same (stmt place form) = stmt_form_same form

    stmt_form_same : (x : StmtForm) → stmt_form_bulk (become_stmt_form g x) ≡ stmt_form_bulk x
    stmt_form_same Empty = refl
    stmt_form_same (Block ss) = rw (stmts_same ss) refl
    stmt_form_same (Locals ds) = rw (declared_same ds) refl
    stmt_form_same (Effect of_it) = rw (operand_same of_it) refl
    stmt_form_same (If arms other) = rw (arms_same arms, stmts_same other) refl
    stmt_form_same (Labelled target body) = rw (stmt_same body) refl
    stmt_form_same (While target test body) = rw (operand_same test, stmt_same body) refl
    stmt_form_same (Do target body test) = rw (stmt_same body, operand_same test) refl
    stmt_form_same (For target ds before test update body) = rw (declared_same ds, operands_same before, operands_same test, operands_same update, stmt_same body) refl
    stmt_form_same (ForArray target of_it ty captures ss n body) = rw (operand_same of_it, steps_same ss, stmt_same body) refl
    stmt_form_same (ForIterable target of_it ty captures ss n body) = rw (operand_same of_it, steps_same ss, stmt_same body) refl
    stmt_form_same (Switch target of_it cases ss) = rw (operand_same of_it, stmts_same ss) refl
    stmt_form_same (Return value) = rw (operands_same value) refl
    stmt_form_same (Break target) = refl
    stmt_form_same (Continue target) = refl
    stmt_form_same (Throw of_it) = rw (operand_same of_it) refl
    stmt_form_same (Try body catches last copies) = rw (stmt_same body, catches_same catches, finally_same copies last) refl
    stmt_form_same (Construct m args phase thrown is_raw) = rw (operands_same args) refl
    stmt_form_same (Initialise x value) = rw (operand_same value) refl

    pub stmts_same : (x : Stmts) → stmts_bulk (become_stmts g x) ≡ stmts_bulk x
    stmts_same NoStmts = refl
    stmts_same (MoreStmts before last) = rw (stmts_same before, stmt_same last) refl

    arms_same : (x : Arms) → arms_bulk (become_arms g x) ≡ arms_bulk x
    arms_same NoArms = refl
    arms_same (MoreArms before test taken) = rw (arms_same before, operand_same test, stmt_same taken) refl

    catches_same : (x : Catches) → catches_bulk (become_catches g x) ≡ catches_bulk x
    catches_same NoCatches = refl
    catches_same (MoreCatches before place n types body) = rw (catches_same before, types_same types, stmt_same body) refl

    finally_same : (copies : ℕ) (x : Stmts) → finally_bulk copies (become_stmts g x) ≡ finally_bulk copies x
    finally_same copies NoStmts = refl
    finally_same copies (MoreStmts before last) = rw (stmts_same before, stmt_same last) refl
