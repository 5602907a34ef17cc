-- The typed trees (JLS 14, 15).
use Rattle.std.specs.Prelude.{ℕ, ℤ, Bool, List, Option}
use Rattle.jc_rules.specs.declared.rule.Place.{Place}
use Rattle.jc_types.specs.declared.form.Ty.{Ty}
use Rattle.jc_types.specs.declared.form.Primitive.{Primitive}
use Rattle.jc_types.specs.declared.ids.FieldId.{FieldId}
use Rattle.jc_types.specs.declared.ids.MethodId.{MethodId}
use Rattle.jc_types.specs.declared.erased.Erased.{Erased}
use Rattle.jc_types.specs.declared.constant.Constant.{Constant}
use Rattle.jc_types.specs.declared.constant.Op.{Op}
use Rattle.jc_types.specs.declared.conversion.Phase.{Phase}
use Rattle.jc_running.specs.declared.seen.Check.{Check}
use Rattle.jc_typed.specs.declared.expressions.CallKind.{CallKind}
use Rattle.jc_typed.specs.declared.expressions.Joint.{Joint}
use Rattle.jc_typed.specs.declared.lists.Capture.{Capture}

-- a local that a constant expression names, by its simple name at a place
pub record Named : Type 0 where
  pub place : Place
  pub local : ℕ

-- a label of a `switch`: its constant, or none for `default`, how many statements stand before it, and the locals that the constant names
pub record Case : Type 0 where
  pub key : Option ℤ
  pub skips : ℕ
  pub named : List Named

-- a step of what is done with a value where it stands
pub data Step : Type 0 where
  Widen : (to : Primitive) → Step
  Narrow : (to : Primitive) → Step
  BoxUp : (of_it : Primitive) → Step
  Unbox : (to : Primitive) → Step
  Up : (to : Ty) (unchecked : Bool) → Step
  Test : (check : Check) (to : Erased) → Step

-- Expressions. Lists end in their last member. `before` and `receiver` have no operand or one.
mutual
  -- an expression with its static type, and the variables of its capture conversion (JLS 5.1.10); `NoExpr` stands where there is none
  pub data Expr : Type 0 where
    NoExpr : Expr
    expr : (place : Place) (ty : Ty) (captures : List Capture) (form : Form) → Expr

  -- an expression, and what is done with its value where it stands, first to last; its place is the first token, parentheses included
  pub data Operand : Type 0 where
    NoOperand : Operand
    operand : (place : Place) (of_it : Expr) (steps : List Step) → Operand

  -- What an expression is, by its kind (JLS 15.8 to 15.28). A conditional forgets what the captured variables from the number `from` up
  -- to `up_to`, excluded, stood for before one of its branches is evaluated, and `&&` and `||` those of the operands behind the first.
  -- `named` are the locals that a constant names, and `casts` the places of its casts. `store` are the guards of what an assignment stores.
  -- `thrown` are the types that a call says it throws, and `is_raw` tells whether the member is seen through a raw type. The type of an
  -- expression that creates an object or an array has a class or a primitive type at its base.
  pub data Form : Type 0 where
    Fixed : (before : Operands) (value : Constant) (named : List Named) (casts : List Place) → Form
    Null : Form
    Local : (local : ℕ) → Form
    This : Form
    StaticField : (before : Operands) (field : FieldId) (is_simple : Bool) → Form
    Field : (of_it : Operand) (field : FieldId) → Form
    Element : (array : Operand) (index : Operand) → Form
    Length : (array : Operand) → Form
    Prefix : (ops : List Op) (of_it : Operand) → Form
    Chain : (first : Operand) (links : Links) → Form
    AllOf : (operands : Operands) (from up_to : ℕ) → Form
    AnyOf : (operands : Operands) (from up_to : ℕ) → Form
    InstanceOf : (of_it : Operand) (to : Erased) → Form
    Conditional : (test then other : Operand) (from up_to : ℕ) → Form
    Assign : (variable : Variable) (value : Operand) (store : List Step) → Form
    Compound : (variable : Variable) (joint : Joint) (left : List Step) (right : Operand) (into : List Step) → Form
    Change : (variable : Variable) (op : Op) (from into : List Step) (is_prefix : Bool) → Form
    Call : (kind : CallKind) (receiver : Operands) (method : MethodId) (type_args : List Ty) (args : Operands) (phase : Phase) (thrown : List Ty) (is_raw : Bool) → Form
    New : (constructor : MethodId) (args : Operands) (phase : Phase) (thrown : List Ty) (is_raw : Bool) → Form
    NewArray : (lengths : Operands) → Form
    ArrayOf : (elements : Operands) → Form
    Cast : (of_it : Operand) (to : Ty) (steps : List Step) (is_below : Bool) → Form

  -- what an assignment, `++` or `--` changes (JLS 15.14, 15.15, 15.26), with the place of its first token without parentheses
  pub data Variable : Type 0 where
    LocalVariable : (place : Place) (local : ℕ) → Variable
    StaticVariable : (place : Place) (before : Operands) (field : FieldId) (is_simple : Bool) → Variable
    FieldVariable : (place : Place) (of_it : Operand) (field : FieldId) (is_raw : Bool) → Variable
    ElementVariable : (place : Place) (array : Operand) (index : Operand) → Variable

  -- a list of operands, evaluated from left to right
  pub data Operands : Type 0 where
    NoOperands : Operands
    MoreOperands : (before : Operands) (last : Operand) → Operands

  -- operators that group to the left, each with the steps of the value on its left and its right operand
  pub data Links : Type 0 where
    NoLinks : Links
    MoreLinks : (before : Links) (joint : Joint) (left : List Step) (right : Operand) → Links

-- variables that a statement declares, each with no initialiser or one
pub data Declared : Type 0 where
  NoDeclared : Declared
  MoreDeclared : (before : Declared) (place : Place) (local : ℕ) (value : Operands) → Declared

-- Statements. `other` and `last` have no statement or one; `test` of a `For` and `value` of a `Return` no operand or one.
mutual
  -- a statement and where it stands
  pub data Stmt : Type 0 where
    stmt : (place : Place) (form : StmtForm) → Stmt

  -- what a statement does, by its kind (JLS 14); a `target` is the number by which jumps name the statement
  pub data StmtForm : Type 0 where
    Empty : StmtForm
    Block : (stmts : Stmts) → StmtForm
    Locals : (declared : Declared) → StmtForm
    Effect : (of_it : Operand) → StmtForm
    If : (arms : Arms) (other : Stmts) → StmtForm
    Labelled : (target : ℕ) (body : Stmt) → StmtForm
    While : (target : ℕ) (test : Operand) (body : Stmt) → StmtForm
    Do : (target : ℕ) (body : Stmt) (test : Operand) → StmtForm
    For : (target : ℕ) (declared : Declared) (before test update : Operands) (body : Stmt) → StmtForm
    ForArray : (target : ℕ) (of_it : Operand) (ty : Ty) (captures : List Capture) (steps : List Step) (local : ℕ) (body : Stmt) → StmtForm
    ForIterable : (target : ℕ) (of_it : Operand) (ty : Ty) (captures : List Capture) (steps : List Step) (local : ℕ) (body : Stmt) → StmtForm
    Switch : (target : ℕ) (of_it : Operand) (cases : List Case) (stmts : Stmts) → StmtForm
    Return : (value : Operands) → StmtForm
    Break : (target : ℕ) → StmtForm
    Continue : (target : ℕ) → StmtForm
    Throw : (of_it : Operand) → StmtForm
    Try : (body : Stmt) (catches : Catches) (last : Stmts) (copies : ℕ) → StmtForm
    Construct : (constructor : MethodId) (args : Operands) (phase : Phase) (thrown : List Ty) (is_raw : Bool) → StmtForm
    Initialise : (field : FieldId) (value : Operand) → StmtForm

  -- a list of statements, run one after the other
  pub data Stmts : Type 0 where
    NoStmts : Stmts
    MoreStmts : (before : Stmts) (last : Stmt) → Stmts

  -- tests of an `if` that follow one another by `else if`, each with the statement that runs where it holds (JLS 14.9)
  pub data Arms : Type 0 where
    NoArms : Arms
    MoreArms : (before : Arms) (test : Operand) (then : Stmt) → Arms

  -- catch clauses: the variable of the exception, its alternatives, and the block (JLS 14.20)
  pub data Catches : Type 0 where
    NoCatches : Catches
    MoreCatches : (before : Catches) (place : Place) (local : ℕ) (types : List Ty) (body : Stmt) → Catches
