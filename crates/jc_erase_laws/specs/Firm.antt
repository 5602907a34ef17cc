-- What erasure asks of typed trees, so that what stands for type variables at run time can't change what is made or caught: each created object is of its
-- constructor's class, each created array has a class or a primitive type at its base, and each alternative of a catch clause is a class (JLS 14.20, 15.9, 15.10).
use Rattle.std.specs.Prelude.{◌≡◌, true, List, [], ◌∷◌, Option, Some, None}
use Rattle.jc_types.specs.declared.form.Ty.{Ty, out-Ty}
use Rattle.jc_types.specs.declared.table.Table.{Table}
use Rattle.jc_typed.specs.declared.program.TypedMethod.{TypedMethod}
use Rattle.jc_typed.specs.Trees.{Expr, NoExpr, expr, Operand, NoOperand, operand, Form, Fixed, Null, Local, This, StaticField, Field, Element, Length, Prefix, Chain, AllOf, AnyOf, InstanceOf, Conditional, Assign, Compound, Change, Call, New, NewArray, ArrayOf, Cast, Variable, LocalVariable, StaticVariable, FieldVariable, ElementVariable, Operands, NoOperands, MoreOperands, Links, NoLinks, MoreLinks, Declared, NoDeclared, MoreDeclared, Stmt, stmt, StmtForm, Empty, Block, Locals, Effect, If, Labelled, While, Do, For, ForArray, ForIterable, Switch, Return, Break, Continue, Throw, Try, Construct, Initialise, Stmts, NoStmts, MoreStmts, Arms, NoArms, MoreArms, Catches, NoCatches, MoreCatches}
use Rattle.jc_meaning.specs.Programs.{body_in}
use Rattle.jc_right.specs.Firm.{FirmLayer, IsOfClass, is_base_layer}

-- each of these types is a class type, a raw type or a primitive type
abbrev pub AreBases : List Ty → Type 0
AreBases [] = Unit {0}
AreBases (t ∷ ts) = (is_base_layer (out-Ty t) ≡ true) × AreBases ts

module _ (T : Table) where
  abbrev mutual
    -- expressions and operands
    pub FirmExpr : Expr → Type 0
    FirmExpr NoExpr = Unit {0}
    FirmExpr (expr place ty captures form) = FirmForm ty form

    pub FirmOperand : Operand → Type 0
    FirmOperand NoOperand = Unit {0}
    FirmOperand (operand place of_it ss) = FirmExpr of_it

    -- by the form of an expression of a type
    pub FirmForm : Ty → Form → Type 0
    FirmForm ty (Fixed before value named casts) = FirmOperands before
    FirmForm ty Null = Unit {0}
    FirmForm ty (Local n) = Unit {0}
    FirmForm ty This = Unit {0}
    FirmForm ty (StaticField before f is_simple) = FirmOperands before
    FirmForm ty (Field of_it f) = FirmOperand of_it
    FirmForm ty (Element array index) = FirmOperand array × FirmOperand index
    FirmForm ty (Length array) = FirmOperand array
    FirmForm ty (Prefix ops of_it) = FirmOperand of_it
    FirmForm ty (Chain first links) = FirmOperand first × FirmLinks links
    FirmForm ty (AllOf os from up_to) = FirmOperands os
    FirmForm ty (AnyOf os from up_to) = FirmOperands os
    FirmForm ty (InstanceOf of_it to) = FirmOperand of_it
    FirmForm ty (Conditional test first other from up_to) = FirmOperand test × FirmOperand first × FirmOperand other
    FirmForm ty (Assign variable value store) = FirmVariable variable × FirmOperand value
    FirmForm ty (Compound variable joint left right into) = FirmVariable variable × FirmOperand right
    FirmForm ty (Change variable op from into is_prefix) = FirmVariable variable
    FirmForm ty (Call kind receiver m types args phase thrown is_raw) = FirmOperands receiver × FirmOperands args
    FirmForm ty (New m args phase thrown is_raw) = IsOfClass T m ty × FirmOperands args
    FirmForm ty (NewArray lengths) = FirmLayer (out-Ty ty) × FirmOperands lengths
    FirmForm ty (ArrayOf elements) = FirmLayer (out-Ty ty) × FirmOperands elements
    FirmForm ty (Cast of_it to ss is_below) = FirmOperand of_it

    -- what is assigned
    pub FirmVariable : Variable → Type 0
    FirmVariable (LocalVariable place n) = Unit {0}
    FirmVariable (StaticVariable place before f is_simple) = FirmOperands before
    FirmVariable (FieldVariable place of_it f is_raw) = FirmOperand of_it
    FirmVariable (ElementVariable place array index) = FirmOperand array × FirmOperand index

    -- lists of operands, and the further operands of a chain
    pub FirmOperands : Operands → Type 0
    FirmOperands NoOperands = Unit {0}
    FirmOperands (MoreOperands before last) = FirmOperands before × FirmOperand last

    pub FirmLinks : Links → Type 0
    FirmLinks NoLinks = Unit {0}
    FirmLinks (MoreLinks before joint left right) = FirmLinks before × FirmOperand right

  -- declared variables
  abbrev pub FirmDeclared : Declared → Type 0
  FirmDeclared NoDeclared = Unit {0}
  FirmDeclared (MoreDeclared before place n value) = FirmDeclared before × FirmOperands value

  abbrev mutual
    -- statements
    pub FirmStmt : Stmt → Type 0
    FirmStmt (stmt place form) = FirmStmtForm form

    -- by the form of the statement
    pub FirmStmtForm : StmtForm → Type 0
    FirmStmtForm Empty = Unit {0}
    FirmStmtForm (Block ss) = FirmStmts ss
    FirmStmtForm (Locals ds) = FirmDeclared ds
    FirmStmtForm (Effect of_it) = FirmOperand of_it
    FirmStmtForm (If arms other) = FirmArms arms × FirmStmts other
    FirmStmtForm (Labelled target body) = FirmStmt body
    FirmStmtForm (While target test body) = FirmOperand test × FirmStmt body
    FirmStmtForm (Do target body test) = FirmStmt body × FirmOperand test
    FirmStmtForm (For target ds before test update body) = FirmDeclared ds × FirmOperands before × FirmOperands test × FirmOperands update × FirmStmt body
    FirmStmtForm (ForArray target of_it ty captures ss n body) = FirmOperand of_it × FirmStmt body
    FirmStmtForm (ForIterable target of_it ty captures ss n body) = FirmOperand of_it × FirmStmt body
    FirmStmtForm (Switch target of_it cases ss) = FirmOperand of_it × FirmStmts ss
    FirmStmtForm (Return value) = FirmOperands value
    FirmStmtForm (Break target) = Unit {0}
    FirmStmtForm (Continue target) = Unit {0}
    FirmStmtForm (Throw of_it) = FirmOperand of_it
    FirmStmtForm (Try body catches last copies) = FirmStmt body × FirmCatches catches × FirmStmts last
    FirmStmtForm (Construct m args phase thrown is_raw) = FirmOperands args
    FirmStmtForm (Initialise f value) = FirmOperand value

    -- lists of statements, arms of an `if` and catch clauses
    pub FirmStmts : Stmts → Type 0
    FirmStmts NoStmts = Unit {0}
    FirmStmts (MoreStmts before last) = FirmStmts before × FirmStmt last

    pub FirmArms : Arms → Type 0
    FirmArms NoArms = Unit {0}
    FirmArms (MoreArms before test taken) = FirmArms before × FirmOperand test × FirmStmt taken

    pub FirmCatches : Catches → Type 0
    FirmCatches NoCatches = Unit {0}
    FirmCatches (MoreCatches before place n types body) = FirmCatches before × AreBases types × FirmStmt body

  -- the statements of a body, if there is one
  abbrev pub FirmEach : List Stmt → Type 0
  FirmEach [] = Unit {0}
  FirmEach (s ∷ ss) = FirmStmt s × FirmEach ss

  abbrev pub FirmBody : Option (List Stmt) → Type 0
  FirmBody None = Unit {0}
  FirmBody (Some ss) = FirmEach ss

  -- .. of each of these methods
  abbrev pub FirmMethods : List TypedMethod → Type 0
  FirmMethods [] = Unit {0}
  FirmMethods (m ∷ ms) = FirmBody (body_in m m.body) × FirmMethods ms
