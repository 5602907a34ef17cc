-- What each node of an arena stands for, by the nodes below it.
use Rattle.std.specs.Prelude.{◌≡◌, ℕ, pos, List, [], ◌∷◌, ◌++◌, ◌<◌, ◌≤◌, ◌+◌, length, slice_index_or}
use Rattle.jc_rules.specs.declared.rule.Place.{Place}
use Rattle.jc_types.specs.declared.form.Ty.{Ty}
use Rattle.jc_types.specs.declared.form.Ty.TheVariants.{NullTy}
use Rattle.jc_types.specs.declared.form.Primitive.TheVariants.{Int}
use Rattle.jc_types.specs.declared.constant.Constant.{Constant}
use Rattle.jc_types.specs.declared.constant.Constant.TheVariants as constant
use Rattle.jc_types.specs.declared.constant.Op.{Op}
use Rattle.jc_typed.specs.declared.nodes.Node.{Node}
use Rattle.jc_typed.specs.declared.nodes.Node.TheVariants as n
use Rattle.jc_typed.specs.declared.expressions.ExprNode.{ExprNode}
use Rattle.jc_typed.specs.declared.expressions.ExprNode.TheVariants as e
use Rattle.jc_typed.specs.declared.expressions.ExprForm.{ExprForm}
use Rattle.jc_typed.specs.declared.expressions.ExprForm.TheVariants as f
use Rattle.jc_typed.specs.declared.expressions.OperandNode.{OperandNode}
use Rattle.jc_typed.specs.declared.expressions.OperandNode.TheVariants as o
use Rattle.jc_typed.specs.declared.expressions.VariableNode.{VariableNode}
use Rattle.jc_typed.specs.declared.expressions.VariableNode.TheVariants as v
use Rattle.jc_typed.specs.declared.statements.StmtNode.{StmtNode}
use Rattle.jc_typed.specs.declared.statements.StmtForm.{StmtForm as FormNode}
use Rattle.jc_typed.specs.declared.statements.StmtForm.TheVariants as s
use Rattle.jc_typed.specs.declared.lists.ListNode.{ListNode}
use Rattle.jc_typed.specs.declared.lists.ListNode.TheVariants as l
use Rattle.jc_typed.specs.declared.lists.StepNode.{StepNode}
use Rattle.jc_typed.specs.declared.lists.StepNode.TheVariants as step
use Rattle.jc_typed.specs.declared.lists.StepsNode.{StepsNode}
use Rattle.jc_typed.specs.declared.lists.StepsNode.TheVariants as steps
use Rattle.jc_typed.specs.declared.lists.Capture.{Capture}
use Rattle.jc_typed.specs.declared.lists.CapturesNode.{CapturesNode}
use Rattle.jc_typed.specs.declared.lists.CapturesNode.TheVariants as captures
use Rattle.jc_typed.specs.declared.lists.OpsNode.{OpsNode}
use Rattle.jc_typed.specs.declared.lists.OpsNode.TheVariants as ops
use Rattle.jc_typed.specs.declared.lists.Case.{Case as CaseNode}
use Rattle.jc_typed.specs.declared.lists.NamesNode.{NamesNode}
use Rattle.jc_typed.specs.declared.lists.NamesNode.TheVariants as names
use Rattle.jc_typed.specs.declared.lists.PlacesNode.{PlacesNode}
use Rattle.jc_typed.specs.declared.lists.PlacesNode.TheVariants as places
use Rattle.jc_typed.specs.declared.lists.CasesNode.{CasesNode}
use Rattle.jc_typed.specs.declared.lists.CasesNode.TheVariants as cases
use Rattle.jc_typed.specs.declared.lists.LinksNode.{LinksNode}
use Rattle.jc_typed.specs.declared.lists.LinksNode.TheVariants as links
use Rattle.jc_typed.specs.declared.lists.ArmsNode.{ArmsNode}
use Rattle.jc_typed.specs.declared.lists.ArmsNode.TheVariants as arms
use Rattle.jc_typed.specs.declared.lists.DeclaredNode.{DeclaredNode}
use Rattle.jc_typed.specs.declared.lists.DeclaredNode.TheVariants as declared
use Rattle.jc_typed.specs.declared.lists.CatchesNode.{CatchesNode}
use Rattle.jc_typed.specs.declared.lists.CatchesNode.TheVariants as catches
use Rattle.jc_typed.specs.Trees.{Named, Case, Step, Widen, Narrow, BoxUp, Unbox, Up, Test, Expr, NoExpr, expr, Operand, NoOperand, operand, Form, Fixed, Null, Local, This, StaticField, Field, Element, Length, Prefix, Chain, AllOf, AnyOf, InstanceOf, Conditional, Assign, Compound, Change, Call, New, NewArray, ArrayOf, Cast, Variable, LocalVariable, StaticVariable, FieldVariable, ElementVariable, Operands, NoOperands, MoreOperands, Links, NoLinks, MoreLinks, Declared, NoDeclared, MoreDeclared, Stmt, stmt, StmtForm, Empty, Block, Locals, Effect, If, Labelled, While, Do, For, ForArray, ForIterable, Switch, Return, Break, Continue, Throw, Try, Construct, Initialise, Stmts, NoStmts, MoreStmts, Arms, NoArms, MoreArms, Catches, NoCatches, MoreCatches}

-- what a node can stand for
pub data Part : Type 0 where
  OfType : Ty → Part
  OfTypes : List Ty → Part
  OfConstant : Constant → Part
  OfSteps : List Step → Part
  OfCaptures : List Capture → Part
  OfOps : List Op → Part
  OfNames : List Named → Part
  OfPlaces : List Place → Part
  OfCases : List Case → Part
  OfExpr : Expr → Part
  OfOperand : Operand → Part
  OfOperands : Operands → Part
  OfLinks : Links → Part
  OfVariable : Variable → Part
  OfDeclared : Declared → Part
  OfStmt : Stmt → Part
  OfStmts : Stmts → Part
  OfArms : Arms → Part
  OfCatches : Catches → Part

-- the start of file 0: the place of the statement that stands where a part is none
abbrev pub nowhere : Place
nowhere = record { file = 0; at = 0 }

-- the int 0: the constant that stands where a part is none
abbrev pub zero_constant : Constant
zero_constant = constant.Whole (pos 0) Int

-- as a part of a sort; what a part of another sort is in its place is told below: as a type the null type
abbrev pub as_type : Part → Ty
as_type (OfType x) = x
as_type _ = NullTy

-- a part of another sort is the empty list, or as a constant the int 0
abbrev pub as_types : Part → List Ty
as_types (OfTypes x) = x
as_types _ = []

abbrev pub as_constant : Part → Constant
as_constant (OfConstant x) = x
as_constant _ = zero_constant

abbrev pub as_steps : Part → List Step
as_steps (OfSteps x) = x
as_steps _ = []

abbrev pub as_captures : Part → List Capture
as_captures (OfCaptures x) = x
as_captures _ = []

abbrev pub as_ops : Part → List Op
as_ops (OfOps x) = x
as_ops _ = []

abbrev pub as_names : Part → List Named
as_names (OfNames x) = x
as_names _ = []

abbrev pub as_places : Part → List Place
as_places (OfPlaces x) = x
as_places _ = []

abbrev pub as_cases : Part → List Case
as_cases (OfCases x) = x
as_cases _ = []

-- a part of another sort is a missing expression or operand, or no operands or links at all
abbrev pub as_expr : Part → Expr
as_expr (OfExpr x) = x
as_expr _ = NoExpr

abbrev pub as_operand : Part → Operand
as_operand (OfOperand x) = x
as_operand _ = NoOperand

abbrev pub as_operands : Part → Operands
as_operands (OfOperands x) = x
as_operands _ = NoOperands

abbrev pub as_links : Part → Links
as_links (OfLinks x) = x
as_links _ = NoLinks

-- a part of another sort is the local variable number 0 at no place, or no declared variables
abbrev pub as_variable : Part → Variable
as_variable (OfVariable x) = x
as_variable _ = LocalVariable nowhere 0

abbrev pub as_declared : Part → Declared
as_declared (OfDeclared x) = x
as_declared _ = NoDeclared

-- a part of another sort is an empty statement at no place, or no statements, arms or catch clauses at all
abbrev pub as_stmt : Part → Stmt
as_stmt (OfStmt x) = x
as_stmt _ = stmt nowhere Empty

abbrev pub as_stmts : Part → Stmts
as_stmts (OfStmts x) = x
as_stmts _ = NoStmts

abbrev pub as_arms : Part → Arms
as_arms (OfArms x) = x
as_arms _ = NoArms

abbrev pub as_catches : Part → Catches
as_catches (OfCatches x) = x
as_catches _ = NoCatches

-- the part at an index from 0 on; behind the last one it is a list of no statements
unfoldable pub part_in : List Part → ℕ → Part
part_in ps i = slice_index_or ps i (OfStmts NoStmts)

-- the part at an index as a type or a constant, or as a list that has no nodes of expressions in it
abbrev pub type_in : List Part → ℕ → Ty
type_in ps i = as_type (part_in ps i)

abbrev pub types_in : List Part → ℕ → List Ty
types_in ps i = as_types (part_in ps i)

abbrev pub constant_in : List Part → ℕ → Constant
constant_in ps i = as_constant (part_in ps i)

abbrev pub steps_in : List Part → ℕ → List Step
steps_in ps i = as_steps (part_in ps i)

abbrev pub captures_in : List Part → ℕ → List Capture
captures_in ps i = as_captures (part_in ps i)

abbrev pub ops_in : List Part → ℕ → List Op
ops_in ps i = as_ops (part_in ps i)

abbrev pub names_in : List Part → ℕ → List Named
names_in ps i = as_names (part_in ps i)

abbrev pub places_in : List Part → ℕ → List Place
places_in ps i = as_places (part_in ps i)

abbrev pub cases_in : List Part → ℕ → List Case
cases_in ps i = as_cases (part_in ps i)

-- the part at an index as an expression, as what an expression is made of, or as declared variables
abbrev pub expr_in : List Part → ℕ → Expr
expr_in ps i = as_expr (part_in ps i)

abbrev pub operand_in : List Part → ℕ → Operand
operand_in ps i = as_operand (part_in ps i)

abbrev pub operands_in : List Part → ℕ → Operands
operands_in ps i = as_operands (part_in ps i)

abbrev pub links_in : List Part → ℕ → Links
links_in ps i = as_links (part_in ps i)

abbrev pub variable_in : List Part → ℕ → Variable
variable_in ps i = as_variable (part_in ps i)

abbrev pub declared_in : List Part → ℕ → Declared
declared_in ps i = as_declared (part_in ps i)

-- the part at an index as a statement, or as a list of statements, arms or catch clauses
abbrev pub stmt_in : List Part → ℕ → Stmt
stmt_in ps i = as_stmt (part_in ps i)

abbrev pub stmts_in : List Part → ℕ → Stmts
stmts_in ps i = as_stmts (part_in ps i)

abbrev pub arms_in : List Part → ℕ → Arms
arms_in ps i = as_arms (part_in ps i)

abbrev pub catches_in : List Part → ℕ → Catches
catches_in ps i = as_catches (part_in ps i)

-- what a node stands for, over what the nodes below it stand for
abbrev pub step_over : List Part → StepNode → Step
step_over ps (step.Widen p) = Widen p
step_over ps (step.Narrow p) = Narrow p
step_over ps (step.BoxUp p) = BoxUp p
step_over ps (step.Unbox p) = Unbox p
step_over ps (step.Up ty unchecked) = Up (type_in ps ty) unchecked
step_over ps (step.Test check to) = Test check to

-- a list node is the list before it, with one member more at the end
abbrev pub types_over : List Part → ListNode → List Ty
types_over ps l.Empty = []
types_over ps (l.More before last) = types_in ps before ++ type_in ps last ∷ []

abbrev pub steps_over : List Part → StepsNode → List Step
steps_over ps steps.Empty = []
steps_over ps (steps.More before last) = steps_in ps before ++ step_over ps last ∷ []

abbrev pub captures_over : List Part → CapturesNode → List Capture
captures_over ps captures.Empty = []
captures_over ps (captures.More before last) = captures_in ps before ++ last ∷ []

abbrev pub ops_over : List Part → OpsNode → List Op
ops_over ps ops.Empty = []
ops_over ps (ops.More before last) = ops_in ps before ++ last ∷ []

abbrev pub names_over : List Part → NamesNode → List Named
names_over ps names.Empty = []
names_over ps (names.More before place local) = names_in ps before ++ record { place = place; local = local } ∷ []

abbrev pub places_over : List Part → PlacesNode → List Place
places_over ps places.Empty = []
places_over ps (places.More before last) = places_in ps before ++ last ∷ []

-- a label with the locals that its constant names
abbrev pub case_over : List Part → CaseNode → Case
case_over ps node = record { key = node.key; skips = node.skips; named = names_in ps node.named }

abbrev pub cases_over : List Part → CasesNode → List Case
cases_over ps cases.Empty = []
cases_over ps (cases.More before last) = cases_in ps before ++ case_over ps last ∷ []

-- the form of an expression (JLS 15): what isn't a place of a part stays as it is
abbrev pub form_over : List Part → ExprForm → Form
form_over ps (f.Constant before value named casts) = Fixed (operands_in ps before) (constant_in ps value) (names_in ps named) (places_in ps casts)
form_over ps f.Null = Null
form_over ps (f.Local local) = Local local
form_over ps f.This = This
form_over ps (f.StaticField before field is_simple) = StaticField (operands_in ps before) field is_simple
form_over ps (f.Field of_it field) = Field (operand_in ps of_it) field
form_over ps (f.Element array index) = Element (operand_in ps array) (operand_in ps index)
form_over ps (f.Length array) = Length (operand_in ps array)
form_over ps (f.Prefix ops of_it) = Prefix (ops_in ps ops) (operand_in ps of_it)
form_over ps (f.Chain first links) = Chain (operand_in ps first) (links_in ps links)
form_over ps (f.AllOf operands from up_to) = AllOf (operands_in ps operands) from up_to
form_over ps (f.AnyOf operands from up_to) = AnyOf (operands_in ps operands) from up_to
form_over ps (f.InstanceOf of_it to) = InstanceOf (operand_in ps of_it) to
form_over ps (f.Conditional test then other from up_to) = Conditional (operand_in ps test) (operand_in ps then) (operand_in ps other) from up_to
form_over ps (f.Assign variable value store) = Assign (variable_in ps variable) (operand_in ps value) (steps_in ps store)
form_over ps (f.Compound variable joint left right into) = Compound (variable_in ps variable) joint (steps_in ps left) (operand_in ps right) (steps_in ps into)
form_over ps (f.Change variable op from into is_prefix) = Change (variable_in ps variable) op (steps_in ps from) (steps_in ps into) is_prefix
form_over ps (f.Call kind receiver method type_args args phase thrown is_raw) = Call kind (operands_in ps receiver) method (types_in ps type_args) (operands_in ps args) phase (types_in ps thrown) is_raw
form_over ps (f.New constructor args phase thrown is_raw) = New constructor (operands_in ps args) phase (types_in ps thrown) is_raw
form_over ps (f.NewArray lengths) = NewArray (operands_in ps lengths)
form_over ps (f.ArrayOf elements) = ArrayOf (operands_in ps elements)
form_over ps (f.Cast of_it to steps is_below) = Cast (operand_in ps of_it) (type_in ps to) (steps_in ps steps) is_below

-- an expression with its type and captures, and an operand with the steps that follow it
abbrev pub expr_over : List Part → ExprNode → Expr
expr_over ps e.Missing = NoExpr
expr_over ps (e.Expr place ty captures form) = expr place (type_in ps ty) (captures_in ps captures) (form_over ps form)

abbrev pub operand_over : List Part → OperandNode → Operand
operand_over ps o.Missing = NoOperand
operand_over ps (o.Operand place of_it steps) = operand place (expr_in ps of_it) (steps_in ps steps)

-- operands, and the operators of a chain, each with the steps of the left value and the right operand
abbrev pub operands_over : List Part → ListNode → Operands
operands_over ps l.Empty = NoOperands
operands_over ps (l.More before last) = MoreOperands (operands_in ps before) (operand_in ps last)

abbrev pub links_over : List Part → LinksNode → Links
links_over ps links.Empty = NoLinks
links_over ps (links.More before joint left right) = MoreLinks (links_in ps before) joint (steps_in ps left) (operand_in ps right)

-- what an assignment or `++` changes (JLS 15.26), and the variables that a statement declares (JLS 14.4)
abbrev pub variable_over : List Part → VariableNode → Variable
variable_over ps (v.Local place local) = LocalVariable place local
variable_over ps (v.StaticField place before field is_simple) = StaticVariable place (operands_in ps before) field is_simple
variable_over ps (v.Field place of_it field is_raw) = FieldVariable place (operand_in ps of_it) field is_raw
variable_over ps (v.Element place array index) = ElementVariable place (operand_in ps array) (operand_in ps index)

abbrev pub declared_over : List Part → DeclaredNode → Declared
declared_over ps declared.Empty = NoDeclared
declared_over ps (declared.More before place local value) = MoreDeclared (declared_in ps before) place local (operands_in ps value)

-- the form of a statement (JLS 14): what isn't a place of a part stays as it is
abbrev pub stmt_form_over : List Part → FormNode → StmtForm
stmt_form_over ps s.Empty = Empty
stmt_form_over ps (s.Block stmts) = Block (stmts_in ps stmts)
stmt_form_over ps (s.Locals declared) = Locals (declared_in ps declared)
stmt_form_over ps (s.Effect of_it) = Effect (operand_in ps of_it)
stmt_form_over ps (s.If arms other) = If (arms_in ps arms) (stmts_in ps other)
stmt_form_over ps (s.Labelled target body) = Labelled target (stmt_in ps body)
stmt_form_over ps (s.While target test body) = While target (operand_in ps test) (stmt_in ps body)
stmt_form_over ps (s.Do target body test) = Do target (stmt_in ps body) (operand_in ps test)
stmt_form_over ps (s.For target declared before test update body) = For target (declared_in ps declared) (operands_in ps before) (operands_in ps test) (operands_in ps update) (stmt_in ps body)
stmt_form_over ps (s.ForArray target of_it ty captures steps local body) = ForArray target (operand_in ps of_it) (type_in ps ty) (captures_in ps captures) (steps_in ps steps) local (stmt_in ps body)
stmt_form_over ps (s.ForIterable target of_it ty captures steps local body) = ForIterable target (operand_in ps of_it) (type_in ps ty) (captures_in ps captures) (steps_in ps steps) local (stmt_in ps body)
stmt_form_over ps (s.Switch target of_it cases stmts) = Switch target (operand_in ps of_it) (cases_in ps cases) (stmts_in ps stmts)
stmt_form_over ps (s.Return value) = Return (operands_in ps value)
stmt_form_over ps (s.Break target) = Break target
stmt_form_over ps (s.Continue target) = Continue target
stmt_form_over ps (s.Throw of_it) = Throw (operand_in ps of_it)
stmt_form_over ps (s.Try body catches last copies) = Try (stmt_in ps body) (catches_in ps catches) (stmts_in ps last) copies
stmt_form_over ps (s.Construct constructor args phase thrown is_raw) = Construct constructor (operands_in ps args) phase (types_in ps thrown) is_raw
stmt_form_over ps (s.Initialise field value) = Initialise field (operand_in ps value)

-- a statement with its place, and lists of statements, arms of an `if` and catch clauses
abbrev pub stmt_over : List Part → StmtNode → Stmt
stmt_over ps node = stmt node.place (stmt_form_over ps node.form)

abbrev pub stmts_over : List Part → ListNode → Stmts
stmts_over ps l.Empty = NoStmts
stmts_over ps (l.More before last) = MoreStmts (stmts_in ps before) (stmt_in ps last)

abbrev pub arms_over : List Part → ArmsNode → Arms
arms_over ps arms.Empty = NoArms
arms_over ps (arms.More before test then) = MoreArms (arms_in ps before) (operand_in ps test) (stmt_in ps then)

abbrev pub catches_over : List Part → CatchesNode → Catches
catches_over ps catches.Empty = NoCatches
catches_over ps (catches.More before place local types body) = MoreCatches (catches_in ps before) place local (types_in ps types) (stmt_in ps body)

-- a node of any sort gives the part of its sort
abbrev pub part_over : List Part → Node → Part
part_over ps (n.Type x) = OfType x
part_over ps (n.Types x) = OfTypes (types_over ps x)
part_over ps (n.Constant x) = OfConstant x
part_over ps (n.Steps x) = OfSteps (steps_over ps x)
part_over ps (n.Captures x) = OfCaptures (captures_over ps x)
part_over ps (n.Ops x) = OfOps (ops_over ps x)
part_over ps (n.Names x) = OfNames (names_over ps x)
part_over ps (n.Places x) = OfPlaces (places_over ps x)
part_over ps (n.Cases x) = OfCases (cases_over ps x)
part_over ps (n.Expr x) = OfExpr (expr_over ps x)
part_over ps (n.Operand x) = OfOperand (operand_over ps x)
part_over ps (n.Operands x) = OfOperands (operands_over ps x)
part_over ps (n.Links x) = OfLinks (links_over ps x)
part_over ps (n.Variable x) = OfVariable (variable_over ps x)
part_over ps (n.Declared x) = OfDeclared (declared_over ps x)
part_over ps (n.Stmt x) = OfStmt (stmt_over ps x)
part_over ps (n.Stmts x) = OfStmts (stmts_over ps x)
part_over ps (n.Arms x) = OfArms (arms_over ps x)
part_over ps (n.Catches x) = OfCatches (catches_over ps x)

-- the parts of a node stand below a place
abbrev pub BelowStep : ℕ → StepNode → Type 0
BelowStep k (step.Widen p) = Unit {0}
BelowStep k (step.Narrow p) = Unit {0}
BelowStep k (step.BoxUp p) = Unit {0}
BelowStep k (step.Unbox p) = Unit {0}
BelowStep k (step.Up ty unchecked) = ty < k
BelowStep k (step.Test check to) = Unit {0}

-- list nodes: the list before, and the last member where it is a place or has places
abbrev pub BelowList : ℕ → ListNode → Type 0
BelowList k l.Empty = Unit {0}
BelowList k (l.More before last) = (before < k) × (last < k)

abbrev pub BelowSteps : ℕ → StepsNode → Type 0
BelowSteps k steps.Empty = Unit {0}
BelowSteps k (steps.More before last) = (before < k) × BelowStep k last

abbrev pub BelowCaptures : ℕ → CapturesNode → Type 0
BelowCaptures k captures.Empty = Unit {0}
BelowCaptures k (captures.More before last) = before < k

abbrev pub BelowOps : ℕ → OpsNode → Type 0
BelowOps k ops.Empty = Unit {0}
BelowOps k (ops.More before last) = before < k

abbrev pub BelowNames : ℕ → NamesNode → Type 0
BelowNames k names.Empty = Unit {0}
BelowNames k (names.More before place local) = before < k

abbrev pub BelowPlaces : ℕ → PlacesNode → Type 0
BelowPlaces k places.Empty = Unit {0}
BelowPlaces k (places.More before last) = before < k

abbrev pub BelowCases : ℕ → CasesNode → Type 0
BelowCases k cases.Empty = Unit {0}
BelowCases k (cases.More before last) = (before < k) × (last.named < k)

-- the form of an expression: all its operands, lists, types and steps
abbrev pub BelowForm : ℕ → ExprForm → Type 0
BelowForm k (f.Constant before value named casts) = (before < k) × (value < k) × (named < k) × (casts < k)
BelowForm k f.Null = Unit {0}
BelowForm k (f.Local local) = Unit {0}
BelowForm k f.This = Unit {0}
BelowForm k (f.StaticField before field is_simple) = before < k
BelowForm k (f.Field of_it field) = of_it < k
BelowForm k (f.Element array index) = (array < k) × (index < k)
BelowForm k (f.Length array) = array < k
BelowForm k (f.Prefix ops of_it) = (ops < k) × (of_it < k)
BelowForm k (f.Chain first links) = (first < k) × (links < k)
BelowForm k (f.AllOf operands from up_to) = operands < k
BelowForm k (f.AnyOf operands from up_to) = operands < k
BelowForm k (f.InstanceOf of_it to) = of_it < k
BelowForm k (f.Conditional test then other from up_to) = (test < k) × (then < k) × (other < k)
BelowForm k (f.Assign variable value store) = (variable < k) × (value < k) × (store < k)
BelowForm k (f.Compound variable joint left right into) = (variable < k) × (left < k) × (right < k) × (into < k)
BelowForm k (f.Change variable op from into is_prefix) = (variable < k) × (from < k) × (into < k)
BelowForm k (f.Call kind receiver method type_args args phase thrown is_raw) = (receiver < k) × (type_args < k) × (args < k) × (thrown < k)
BelowForm k (f.New constructor args phase thrown is_raw) = (args < k) × (thrown < k)
BelowForm k (f.NewArray lengths) = lengths < k
BelowForm k (f.ArrayOf elements) = elements < k
BelowForm k (f.Cast of_it to steps is_below) = (of_it < k) × (to < k) × (steps < k)

-- an expression and an operand; a missing one has no parts
abbrev pub BelowExpr : ℕ → ExprNode → Type 0
BelowExpr k e.Missing = Unit {0}
BelowExpr k (e.Expr place ty captures form) = (ty < k) × (captures < k) × BelowForm k form

abbrev pub BelowOperand : ℕ → OperandNode → Type 0
BelowOperand k o.Missing = Unit {0}
BelowOperand k (o.Operand place of_it steps) = (of_it < k) × (steps < k)

-- operators of a chain, variables, and declared variables
abbrev pub BelowLinks : ℕ → LinksNode → Type 0
BelowLinks k links.Empty = Unit {0}
BelowLinks k (links.More before joint left right) = (before < k) × (left < k) × (right < k)

abbrev pub BelowVariable : ℕ → VariableNode → Type 0
BelowVariable k (v.Local place local) = Unit {0}
BelowVariable k (v.StaticField place before field is_simple) = before < k
BelowVariable k (v.Field place of_it field is_raw) = of_it < k
BelowVariable k (v.Element place array index) = (array < k) × (index < k)

abbrev pub BelowDeclared : ℕ → DeclaredNode → Type 0
BelowDeclared k declared.Empty = Unit {0}
BelowDeclared k (declared.More before place local value) = (before < k) × (value < k)

-- the form of a statement: all its operands, lists, types and statements; jumps go to numbers, which are no places
abbrev pub BelowStmtForm : ℕ → FormNode → Type 0
BelowStmtForm k s.Empty = Unit {0}
BelowStmtForm k (s.Block stmts) = stmts < k
BelowStmtForm k (s.Locals declared) = declared < k
BelowStmtForm k (s.Effect of_it) = of_it < k
BelowStmtForm k (s.If arms other) = (arms < k) × (other < k)
BelowStmtForm k (s.Labelled target body) = body < k
BelowStmtForm k (s.While target test body) = (test < k) × (body < k)
BelowStmtForm k (s.Do target body test) = (body < k) × (test < k)
BelowStmtForm k (s.For target declared before test update body) = (declared < k) × (before < k) × (test < k) × (update < k) × (body < k)
BelowStmtForm k (s.ForArray target of_it ty captures steps local body) = (of_it < k) × (ty < k) × (captures < k) × (steps < k) × (body < k)
BelowStmtForm k (s.ForIterable target of_it ty captures steps local body) = (of_it < k) × (ty < k) × (captures < k) × (steps < k) × (body < k)
BelowStmtForm k (s.Switch target of_it cases stmts) = (of_it < k) × (cases < k) × (stmts < k)
BelowStmtForm k (s.Return value) = value < k
BelowStmtForm k (s.Break target) = Unit {0}
BelowStmtForm k (s.Continue target) = Unit {0}
BelowStmtForm k (s.Throw of_it) = of_it < k
BelowStmtForm k (s.Try body catches last copies) = (body < k) × (catches < k) × (last < k)
BelowStmtForm k (s.Construct constructor args phase thrown is_raw) = (args < k) × (thrown < k)
BelowStmtForm k (s.Initialise field value) = value < k

-- a statement, arms of an `if`, and catch clauses
abbrev pub BelowStmt : ℕ → StmtNode → Type 0
BelowStmt k node = BelowStmtForm k node.form

abbrev pub BelowArms : ℕ → ArmsNode → Type 0
BelowArms k arms.Empty = Unit {0}
BelowArms k (arms.More before test then) = (before < k) × (test < k) × (then < k)

abbrev pub BelowCatches : ℕ → CatchesNode → Type 0
BelowCatches k catches.Empty = Unit {0}
BelowCatches k (catches.More before place local types body) = (before < k) × (types < k) × (body < k)

-- a node of any sort; types and constants have no parts
abbrev pub Below : ℕ → Node → Type 0
Below k (n.Type x) = Unit {0}
Below k (n.Types x) = BelowList k x
Below k (n.Constant x) = Unit {0}
Below k (n.Steps x) = BelowSteps k x
Below k (n.Captures x) = BelowCaptures k x
Below k (n.Ops x) = BelowOps k x
Below k (n.Names x) = BelowNames k x
Below k (n.Places x) = BelowPlaces k x
Below k (n.Cases x) = BelowCases k x
Below k (n.Expr x) = BelowExpr k x
Below k (n.Operand x) = BelowOperand k x
Below k (n.Operands x) = BelowList k x
Below k (n.Links x) = BelowLinks k x
Below k (n.Variable x) = BelowVariable k x
Below k (n.Declared x) = BelowDeclared k x
Below k (n.Stmt x) = BelowStmt k x
Below k (n.Stmts x) = BelowList k x
Below k (n.Arms x) = BelowArms k x
Below k (n.Catches x) = BelowCatches k x

-- each of these nodes, the first of which stands at place k, has its parts before itself
abbrev pub WellFormed : ℕ → List Node → Type 0
WellFormed k [] = Unit {0}
WellFormed k (n ∷ ns) = Below k n × WellFormed (k + 1) ns

-- the parts of nodes that stand behind those whose parts are `ps`, and these before them
abbrev pub parts_on : List Part → List Node → List Part
parts_on ps [] = ps
parts_on ps (n ∷ ns) = parts_on (ps ++ part_over ps n ∷ []) ns

-- the parts of all nodes of an arena, by their places
unfoldable pub parts : List Node → List Part
parts ns = parts_on [] ns

-- what stands at a place of an arena
abbrev pub part_of : List Node → ℕ → Part
part_of ns i = part_in (parts ns) i

-- as a type or a constant, or as a list that has no nodes of expressions in it
abbrev pub type_of : List Node → ℕ → Ty
type_of ns i = type_in (parts ns) i

abbrev pub types_of : List Node → ℕ → List Ty
types_of ns i = types_in (parts ns) i

abbrev pub constant_of : List Node → ℕ → Constant
constant_of ns i = constant_in (parts ns) i

abbrev pub steps_of : List Node → ℕ → List Step
steps_of ns i = steps_in (parts ns) i

abbrev pub captures_of : List Node → ℕ → List Capture
captures_of ns i = captures_in (parts ns) i

abbrev pub ops_of : List Node → ℕ → List Op
ops_of ns i = ops_in (parts ns) i

abbrev pub names_of : List Node → ℕ → List Named
names_of ns i = names_in (parts ns) i

abbrev pub places_of : List Node → ℕ → List Place
places_of ns i = places_in (parts ns) i

abbrev pub cases_of : List Node → ℕ → List Case
cases_of ns i = cases_in (parts ns) i

-- as an expression, as what an expression is made of, or as declared variables
abbrev pub expr_of : List Node → ℕ → Expr
expr_of ns i = expr_in (parts ns) i

abbrev pub operand_of : List Node → ℕ → Operand
operand_of ns i = operand_in (parts ns) i

abbrev pub operands_of : List Node → ℕ → Operands
operands_of ns i = operands_in (parts ns) i

abbrev pub links_of : List Node → ℕ → Links
links_of ns i = links_in (parts ns) i

abbrev pub variable_of : List Node → ℕ → Variable
variable_of ns i = variable_in (parts ns) i

abbrev pub declared_of : List Node → ℕ → Declared
declared_of ns i = declared_in (parts ns) i

-- as a statement, or as a list of statements, arms or catch clauses
abbrev pub stmt_of : List Node → ℕ → Stmt
stmt_of ns i = stmt_in (parts ns) i

abbrev pub stmts_of : List Node → ℕ → Stmts
stmts_of ns i = stmts_in (parts ns) i

abbrev pub arms_of : List Node → ℕ → Arms
arms_of ns i = arms_in (parts ns) i

abbrev pub catches_of : List Node → ℕ → Catches
catches_of ns i = catches_in (parts ns) i

-- what a node stands for in an arena
abbrev pub part_at : List Node → Node → Part
part_at ns node = part_over (parts ns) node

-- lists that have no nodes of expressions in them
abbrev pub types_at : List Node → ListNode → List Ty
types_at ns node = types_over (parts ns) node

abbrev pub steps_at : List Node → StepsNode → List Step
steps_at ns node = steps_over (parts ns) node

abbrev pub captures_at : List Node → CapturesNode → List Capture
captures_at ns node = captures_over (parts ns) node

abbrev pub ops_at : List Node → OpsNode → List Op
ops_at ns node = ops_over (parts ns) node

abbrev pub names_at : List Node → NamesNode → List Named
names_at ns node = names_over (parts ns) node

abbrev pub places_at : List Node → PlacesNode → List Place
places_at ns node = places_over (parts ns) node

abbrev pub cases_at : List Node → CasesNode → List Case
cases_at ns node = cases_over (parts ns) node

-- expressions and what they are made of, and declared variables
abbrev pub expr_at : List Node → ExprNode → Expr
expr_at ns node = expr_over (parts ns) node

abbrev pub operand_at : List Node → OperandNode → Operand
operand_at ns node = operand_over (parts ns) node

abbrev pub operands_at : List Node → ListNode → Operands
operands_at ns node = operands_over (parts ns) node

abbrev pub links_at : List Node → LinksNode → Links
links_at ns node = links_over (parts ns) node

abbrev pub variable_at : List Node → VariableNode → Variable
variable_at ns node = variable_over (parts ns) node

abbrev pub declared_at : List Node → DeclaredNode → Declared
declared_at ns node = declared_over (parts ns) node

-- statements, and lists of statements, arms and catch clauses
abbrev pub stmt_at : List Node → StmtNode → Stmt
stmt_at ns node = stmt_over (parts ns) node

abbrev pub stmts_at : List Node → ListNode → Stmts
stmts_at ns node = stmts_over (parts ns) node

abbrev pub arms_at : List Node → ArmsNode → Arms
arms_at ns node = arms_over (parts ns) node

abbrev pub catches_at : List Node → CatchesNode → Catches
catches_at ns node = catches_over (parts ns) node

-- what stood there stands there still
pub record Grows (old new : List Node) : Type 0 where
  pub longer : length old ≤ length new
  pub kept : (i : ℕ) → i < length old → part_of new i ≡ part_of old i

-- a form over an arena is the same over one that has grown, and stays above its parts
abbrev pub FormsStay : Type 0
FormsStay = (old new : List Node) (form : ExprForm) → Grows old new → BelowForm (length old) form → form_over (parts new) form ≡ form_over (parts old) form

abbrev pub FormsStayAbove : Type 0
FormsStayAbove = (old new : List Node) (form : ExprForm) → Grows old new → BelowForm (length old) form → BelowForm (length new) form
