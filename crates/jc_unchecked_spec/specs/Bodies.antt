-- The warnings in bodies: unchecked conversions (1), unchecked casts (2), members of raw types (3, 4) and generic arrays for arguments of a variable number (7).
use Rattle.std.specs.Prelude.{Bool, true, false, not, ◌&&◌, List, [], ◌∷◌, ◌++◌, Option, Some, None}
use Rattle.std.specs.List.{list_any}
use Rattle.jc_rules.specs.declared.rule.Place.{Place}
use Rattle.jc_types.specs.declared.conversion.Phase.{Phase}
use Rattle.jc_types.specs.declared.conversion.Phase.TheVariants as phase
use Rattle.jc_types.specs.declared.environment.Bounds.{Bounds}
use Rattle.jc_types.specs.declared.form.Ty.{Ty}
use Rattle.jc_types.specs.declared.form.Ty.TheVariants.{NullTy}
use Rattle.jc_types.specs.declared.ids.FieldId.{FieldId}
use Rattle.jc_types.specs.declared.ids.MethodId.{MethodId}
use Rattle.jc_types.specs.declared.table.Table.{Table}
use Rattle.jc_types.specs.Accessors.{field_type_of, params_of}
use Rattle.jc_types.specs.Reifying.{reifiable}
use Rattle.jc_types.specs.Sameness.{same}
use Rattle.jc_overriding.specs.Viewing.{plain}
use Rattle.jc_typed.specs.Trees.{Arms, Catches, Declared, Expr, Form, Links, Operand, Operands, Step, Stmt, StmtForm, Stmts, Variable}
use Rattle.jc_unchecked_spec.specs.declared.warning.Warning.{Warning}
use Rattle.jc_unchecked_spec.specs.declared.warning.WarningKind.TheVariants as kind
use Rattle.jc_unchecked_spec.specs.Kinds.{warned_if}
use Rattle.jc_unchecked_spec.specs.Casts.{is_unchecked_cast}

-- ---- what a use of a member asks

-- some of these types isn't its own erasure (JLS 4.6)
abbrev pub some_erased : Table → List Ty → Bool
some_erased T ts = list_any (λ t. not (same t (plain T t))) ts

-- erasure changes the type of a parameter of the method
abbrev pub erasure_changes : Table → MethodId → Bool
erasure_changes T m = some_erased T (params_of T m)

-- .. the type of the field
abbrev pub type_changes : Table → Option Ty → Bool
type_changes T None = false
type_changes T (Some t) = not (same t (plain T t))

abbrev pub field_changes : Table → FieldId → Bool
field_changes T f = type_changes T (field_type_of T f)

-- the call passes arguments of a variable number (JLS 15.12.2.4)
abbrev pub is_variable_phase : Phase → Bool
is_variable_phase phase.Subtyping = false
is_variable_phase phase.Invocation = false
is_variable_phase phase.VariableArity = true

-- the type of an expression
abbrev pub type_of_expr : Expr → Ty
type_of_expr Expr.NoExpr = NullTy
type_of_expr (Expr.expr place ty captures form) = ty

-- .. and behind steps, of which those upwards change it here: so a creation that goes through an unchecked conversion is of the raw type
abbrev pub type_behind : Ty → List Step → Ty
type_behind t [] = t
type_behind t (Step.Up to unchecked ∷ steps) = type_behind to steps
type_behind t (s ∷ steps) = type_behind t steps

-- the type of an operand of reference type
abbrev pub type_of_operand : Operand → Ty
type_of_operand Operand.NoOperand = NullTy
type_of_operand (Operand.operand place of_it steps) = type_behind (type_of_expr of_it) steps

-- the type of the last of these operands isn't reifiable
abbrev pub is_generic_last : Table → Operands → Bool
is_generic_last T Operands.NoOperands = false
is_generic_last T (Operands.MoreOperands before last) = not (reifiable T (type_of_operand last))

-- Arguments of a variable number go into an array, which is the last argument and goes up to the type of the parameter, unerased: that isn't reifiable
-- (JLS 4.7, 15.12.4.2)
abbrev pub makes_generic : Table → Phase → Operands → Bool
makes_generic T p args = is_variable_phase p && is_generic_last T args

-- a step goes up by an unchecked conversion (JLS 5.1.9)
abbrev pub is_unchecked_step : Step → Bool
is_unchecked_step (Step.Up to unchecked) = unchecked
is_unchecked_step _ = false

abbrev pub has_unchecked : List Step → Bool
has_unchecked steps = list_any is_unchecked_step steps

-- a field of a raw type, whose erasure changes its type
abbrev pub is_raw_field : Table → Variable → Bool
is_raw_field T (Variable.FieldVariable place of_it f is_raw) = is_raw && field_changes T f
is_raw_field T _ = false

-- ---- expressions: with the bounds of the captured variables of a method

module _ (T : Table) (env : List Bounds) where
  -- a call of a member, or the creation of an object by it
  abbrev pub member_warned : Place → MethodId → Operands → Phase → Bool → List Warning
  member_warned place m args p is_raw =
      warned_if (is_raw && erasure_changes T m) kind.RawCall place ++ warned_if (makes_generic T p args) kind.GenericArray place

  -- what an expression of this form warns of at its own place
  abbrev pub form_warned : Place → Form → List Warning
  form_warned place (Form.Assign variable value store) = warned_if (is_raw_field T variable) kind.RawField place
  form_warned place (Form.Compound variable joint left right into) = warned_if (is_raw_field T variable) kind.RawField place
  form_warned place (Form.Change variable op from into is_prefix) = warned_if (is_raw_field T variable) kind.RawField place
  form_warned place (Form.Call how receiver m types args p thrown is_raw) = member_warned place m args p is_raw
  form_warned place (Form.New m args p thrown is_raw) = member_warned place m args p is_raw
  form_warned place (Form.Cast of_it to steps is_below) = warned_if (is_unchecked_cast T env (type_of_operand of_it) to) kind.Cast place
  form_warned place _ = []

  abbrev mutual
    -- an operand: a conversion at the first token of what is converted
    pub of_operand : Operand → List Warning
    of_operand Operand.NoOperand = []
    of_operand (Operand.operand place of_it steps) = warned_if (has_unchecked steps) kind.Conversion place ++ of_expr of_it

    pub of_expr : Expr → List Warning
    of_expr Expr.NoExpr = []
    of_expr (Expr.expr place ty captures form) = form_warned place form ++ of_form form

    -- the parts of an expression
    pub of_form : Form → List Warning
    of_form (Form.Fixed before value named casts) = of_operands before
    of_form Form.Null = []
    of_form (Form.Local n) = []
    of_form Form.This = []
    of_form (Form.StaticField before f is_simple) = of_operands before
    of_form (Form.Field of_it f) = of_operand of_it
    of_form (Form.Element array index) = of_operand array ++ of_operand index
    of_form (Form.Length array) = of_operand array
    of_form (Form.Prefix ops of_it) = of_operand of_it
    of_form (Form.Chain first links) = of_operand first ++ of_links links
    of_form (Form.AllOf operands from up_to) = of_operands operands
    of_form (Form.AnyOf operands from up_to) = of_operands operands
    of_form (Form.InstanceOf of_it to) = of_operand of_it
    of_form (Form.Conditional test then other from up_to) = of_operand test ++ of_operand then ++ of_operand other
    of_form (Form.Assign variable value store) = of_variable variable ++ of_operand value
    of_form (Form.Compound variable joint left right into) = of_variable variable ++ of_operand right
    of_form (Form.Change variable op from into is_prefix) = of_variable variable
    of_form (Form.Call how receiver m types args p thrown is_raw) = of_operands receiver ++ of_operands args
    of_form (Form.New m args p thrown is_raw) = of_operands args
    of_form (Form.NewArray lengths) = of_operands lengths
    of_form (Form.ArrayOf elements) = of_operands elements
    of_form (Form.Cast of_it to steps is_below) = of_operand of_it

    pub of_variable : Variable → List Warning
    of_variable (Variable.LocalVariable place n) = []
    of_variable (Variable.StaticVariable place before f is_simple) = of_operands before
    of_variable (Variable.FieldVariable place of_it f is_raw) = of_operand of_it
    of_variable (Variable.ElementVariable place array index) = of_operand array ++ of_operand index

    pub of_operands : Operands → List Warning
    of_operands Operands.NoOperands = []
    of_operands (Operands.MoreOperands before last) = of_operands before ++ of_operand last

    pub of_links : Links → List Warning
    of_links Links.NoLinks = []
    of_links (Links.MoreLinks before joint left right) = of_links before ++ of_operand right

  -- ---- statements

  abbrev pub of_declared : Declared → List Warning
  of_declared Declared.NoDeclared = []
  of_declared (Declared.MoreDeclared before place n value) = of_declared before ++ of_operands value

  -- the first token of an operand; what an enhanced `for` goes over is one
  abbrev pub at_operand : (Place → List Warning) → Operand → List Warning
  at_operand f Operand.NoOperand = []
  at_operand f (Operand.operand place of_it steps) = f place

  -- what an enhanced `for` goes over: its elements are converted by these steps, which is told at its expression (JLS 14.14.2)
  abbrev pub of_elements : Operand → List Step → List Warning
  of_elements of_it steps = of_operand of_it ++ at_operand (warned_if (has_unchecked steps) kind.Conversion) of_it

  abbrev mutual
    pub of_stmt : Stmt → List Warning
    of_stmt (Stmt.stmt place form) = of_stmt_form place form

    pub of_stmt_form : Place → StmtForm → List Warning
    of_stmt_form place StmtForm.Empty = []
    of_stmt_form place (StmtForm.Block stmts) = of_stmts stmts
    of_stmt_form place (StmtForm.Locals declared) = of_declared declared
    of_stmt_form place (StmtForm.Effect of_it) = of_operand of_it
    of_stmt_form place (StmtForm.If arms other) = of_arms arms ++ of_stmts other
    of_stmt_form place (StmtForm.Labelled target body) = of_stmt body
    of_stmt_form place (StmtForm.While target test body) = of_operand test ++ of_stmt body
    of_stmt_form place (StmtForm.Do target body test) = of_stmt body ++ of_operand test
    of_stmt_form place (StmtForm.For target declared before test update body) =
        of_declared declared ++ of_operands before ++ of_operands test ++ of_operands update ++ of_stmt body
    of_stmt_form place (StmtForm.ForArray target of_it ty captures steps n body) = of_elements of_it steps ++ of_stmt body
    of_stmt_form place (StmtForm.ForIterable target of_it ty captures steps n body) = of_elements of_it steps ++ of_stmt body
    of_stmt_form place (StmtForm.Switch target of_it cases stmts) = of_operand of_it ++ of_stmts stmts
    of_stmt_form place (StmtForm.Return value) = of_operands value
    of_stmt_form place (StmtForm.Break target) = []
    of_stmt_form place (StmtForm.Continue target) = []
    of_stmt_form place (StmtForm.Throw of_it) = of_operand of_it
    of_stmt_form place (StmtForm.Try body catches last copies) = of_stmt body ++ of_catches catches ++ of_stmts last
    of_stmt_form place (StmtForm.Construct m args p thrown is_raw) = member_warned place m args p is_raw ++ of_operands args
    of_stmt_form place (StmtForm.Initialise f value) = of_operand value

    pub of_stmts : Stmts → List Warning
    of_stmts Stmts.NoStmts = []
    of_stmts (Stmts.MoreStmts before last) = of_stmts before ++ of_stmt last

    pub of_arms : Arms → List Warning
    of_arms Arms.NoArms = []
    of_arms (Arms.MoreArms before test then) = of_arms before ++ of_operand test ++ of_stmt then

    pub of_catches : Catches → List Warning
    of_catches Catches.NoCatches = []
    of_catches (Catches.MoreCatches before place n types body) = of_catches before ++ of_stmt body
