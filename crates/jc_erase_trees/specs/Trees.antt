-- Typed trees whose types become others, as erasure makes them (JLS 4.6): each type becomes what a function says, and all else stays.
use Rattle.std.specs.Prelude.{List, map, Option}
use Rattle.std.specs.Option.{option_map}
use Rattle.jc_types.specs.declared.form.Ty.{Ty}
use Rattle.jc_typed.specs.Parts.{Part, OfType, OfTypes, OfConstant, OfSteps, OfCaptures, OfOps, OfNames, OfPlaces, OfCases, OfExpr, OfOperand, OfOperands, OfLinks, OfVariable, OfDeclared, OfStmt, OfStmts, OfArms, OfCatches}
use Rattle.jc_typed.specs.Trees.{Step, Widen, Narrow, BoxUp, Unbox, Up, Test, Expr, NoExpr, expr, Operand, NoOperand, operand, Form, Fixed, Null, Local, This, StaticField, Field, Element, Length, Prefix, Chain, AllOf, AnyOf, InstanceOf, Conditional, Assign, Compound, Change, Call, New, NewArray, ArrayOf, Cast, Variable, LocalVariable, StaticVariable, FieldVariable, ElementVariable, Operands, NoOperands, MoreOperands, Links, NoLinks, MoreLinks, Declared, NoDeclared, MoreDeclared, Stmt, stmt, StmtForm, Empty, Block, Locals, Effect, If, Labelled, While, Do, For, ForArray, ForIterable, Switch, Return, Break, Continue, Throw, Try, Construct, Initialise, Stmts, NoStmts, MoreStmts, Arms, NoArms, MoreArms, Catches, NoCatches, MoreCatches}

-- what becomes of each type
module _ (f : Ty → Ty) where
  abbrev pub become_types : List Ty → List Ty
  become_types ts = map f ts

  -- of the steps only those upwards have a type
  abbrev pub become_step : Step → Step
  become_step (Widen to) = Widen to
  become_step (Narrow to) = Narrow to
  become_step (BoxUp of_it) = BoxUp of_it
  become_step (Unbox to) = Unbox to
  become_step (Up to unchecked) = Up (f to) unchecked
  become_step (Test check to) = Test check to

  abbrev pub become_steps : List Step → List Step
  become_steps ss = map become_step ss

  abbrev mutual
    -- expressions, and operands with their steps
    pub become_expr : Expr → Expr
    become_expr NoExpr = NoExpr
    become_expr (expr place ty captures form) = expr place (f ty) captures (become_form form)

    pub become_operand : Operand → Operand
    become_operand NoOperand = NoOperand
    become_operand (operand place of_it ss) = operand place (become_expr of_it) (become_steps ss)

    -- by the form of the expression (JLS 15)
    pub become_form : Form → Form
    become_form (Fixed before value named casts) = Fixed (become_operands before) value named casts
    become_form Null = Null
    become_form (Local n) = Local n
    become_form This = This
    become_form (StaticField before x is_simple) = StaticField (become_operands before) x is_simple
    become_form (Field of_it x) = Field (become_operand of_it) x
    become_form (Element array index) = Element (become_operand array) (become_operand index)
    become_form (Length array) = Length (become_operand array)
    become_form (Prefix ops of_it) = Prefix ops (become_operand of_it)
    become_form (Chain first links) = Chain (become_operand first) (become_links links)
    become_form (AllOf os from up_to) = AllOf (become_operands os) from up_to
    become_form (AnyOf os from up_to) = AnyOf (become_operands os) from up_to
    become_form (InstanceOf of_it to) = InstanceOf (become_operand of_it) to
    become_form (Conditional test first other from up_to) = Conditional (become_operand test) (become_operand first) (become_operand other) from up_to
    become_form (Assign variable value store) = Assign (become_variable variable) (become_operand value) (become_steps store)
    become_form (Compound variable joint left right into) = Compound (become_variable variable) joint (become_steps left) (become_operand right) (become_steps into)
    become_form (Change variable op from into is_prefix) = Change (become_variable variable) op (become_steps from) (become_steps into) is_prefix
    become_form (Call kind receiver m types args phase thrown is_raw) =
        Call kind (become_operands receiver) m (become_types types) (become_operands args) phase (become_types thrown) is_raw
    become_form (New m args phase thrown is_raw) = New m (become_operands args) phase (become_types thrown) is_raw
    become_form (NewArray lengths) = NewArray (become_operands lengths)
    become_form (ArrayOf elements) = ArrayOf (become_operands elements)
    become_form (Cast of_it to ss is_below) = Cast (become_operand of_it) (f to) (become_steps ss) is_below

    -- what is assigned
    pub become_variable : Variable → Variable
    become_variable (LocalVariable place n) = LocalVariable place n
    become_variable (StaticVariable place before x is_simple) = StaticVariable place (become_operands before) x is_simple
    become_variable (FieldVariable place of_it x is_raw) = FieldVariable place (become_operand of_it) x is_raw
    become_variable (ElementVariable place array index) = ElementVariable place (become_operand array) (become_operand index)

    -- lists of operands, and the further operands of a chain
    pub become_operands : Operands → Operands
    become_operands NoOperands = NoOperands
    become_operands (MoreOperands before last) = MoreOperands (become_operands before) (become_operand last)

    pub become_links : Links → Links
    become_links NoLinks = NoLinks
    become_links (MoreLinks before joint left right) = MoreLinks (become_links before) joint (become_steps left) (become_operand right)

  -- declared variables
  abbrev pub become_declared : Declared → Declared
  become_declared NoDeclared = NoDeclared
  become_declared (MoreDeclared before place n value) = MoreDeclared (become_declared before) place n (become_operands value)

  abbrev mutual
    -- statements
    pub become_stmt : Stmt → Stmt
    become_stmt (stmt place form) = stmt place (become_stmt_form form)

    -- by the form of the statement (JLS 14)
    pub become_stmt_form : StmtForm → StmtForm
    become_stmt_form Empty = Empty
    become_stmt_form (Block ss) = Block (become_stmts ss)
    become_stmt_form (Locals ds) = Locals (become_declared ds)
    become_stmt_form (Effect of_it) = Effect (become_operand of_it)
    become_stmt_form (If arms other) = If (become_arms arms) (become_stmts other)
    become_stmt_form (Labelled target body) = Labelled target (become_stmt body)
    become_stmt_form (While target test body) = While target (become_operand test) (become_stmt body)
    become_stmt_form (Do target body test) = Do target (become_stmt body) (become_operand test)
    become_stmt_form (For target ds before test update body) =
        For target (become_declared ds) (become_operands before) (become_operands test) (become_operands update) (become_stmt body)
    become_stmt_form (ForArray target of_it ty captures ss n body) = ForArray target (become_operand of_it) (f ty) captures (become_steps ss) n (become_stmt body)
    become_stmt_form (ForIterable target of_it ty captures ss n body) = ForIterable target (become_operand of_it) (f ty) captures (become_steps ss) n (become_stmt body)
    become_stmt_form (Switch target of_it cases ss) = Switch target (become_operand of_it) cases (become_stmts ss)
    become_stmt_form (Return value) = Return (become_operands value)
    become_stmt_form (Break target) = Break target
    become_stmt_form (Continue target) = Continue target
    become_stmt_form (Throw of_it) = Throw (become_operand of_it)
    become_stmt_form (Try body catches last copies) = Try (become_stmt body) (become_catches catches) (become_stmts last) copies
    become_stmt_form (Construct m args phase thrown is_raw) = Construct m (become_operands args) phase (become_types thrown) is_raw
    become_stmt_form (Initialise x value) = Initialise x (become_operand value)

    -- lists of statements, arms of an `if` and catch clauses
    pub become_stmts : Stmts → Stmts
    become_stmts NoStmts = NoStmts
    become_stmts (MoreStmts before last) = MoreStmts (become_stmts before) (become_stmt last)

    pub become_arms : Arms → Arms
    become_arms NoArms = NoArms
    become_arms (MoreArms before test taken) = MoreArms (become_arms before) (become_operand test) (become_stmt taken)

    pub become_catches : Catches → Catches
    become_catches NoCatches = NoCatches
    become_catches (MoreCatches before place n types body) = MoreCatches (become_catches before) place n (become_types types) (become_stmt body)

  -- what stands at a place of an arena
  abbrev pub become_part : Part → Part
  become_part (OfType x) = OfType (f x)
  become_part (OfTypes x) = OfTypes (become_types x)
  become_part (OfConstant x) = OfConstant x
  become_part (OfSteps x) = OfSteps (become_steps x)
  become_part (OfCaptures x) = OfCaptures x
  become_part (OfOps x) = OfOps x
  become_part (OfNames x) = OfNames x
  become_part (OfPlaces x) = OfPlaces x
  become_part (OfCases x) = OfCases x
  become_part (OfExpr x) = OfExpr (become_expr x)
  become_part (OfOperand x) = OfOperand (become_operand x)
  become_part (OfOperands x) = OfOperands (become_operands x)
  become_part (OfLinks x) = OfLinks (become_links x)
  become_part (OfVariable x) = OfVariable (become_variable x)
  become_part (OfDeclared x) = OfDeclared (become_declared x)
  become_part (OfStmt x) = OfStmt (become_stmt x)
  become_part (OfStmts x) = OfStmts (become_stmts x)
  become_part (OfArms x) = OfArms (become_arms x)
  become_part (OfCatches x) = OfCatches (become_catches x)

  -- the statements of a body, if there is one
  abbrev pub become_body : Option (List Stmt) → Option (List Stmt)
  become_body body = option_map (map become_stmt) body
