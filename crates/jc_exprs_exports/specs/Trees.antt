-- What typing tells of each expression and statement of a typed tree: its captured variables are the next numbers in the order of evaluation, with the bounds that capture gives, and
-- its type is the captured one of what its form says.
use Rattle.std.specs.Prelude.{◌≡◌, ◌⊎◌, ℕ, ◌+◌, ◌||◌, ◌++◌, Bool, true, false, List, [], ◌∷◌, codes, length, Option, Some, None, slice_get, take, drop}
use Rattle.jc_types.specs.declared.environment.Bounds.{Bounds}
use Rattle.jc_types.specs.declared.form.Ty.{Ty}
use Rattle.jc_types.specs.declared.table.Table.{Table}
use Rattle.jc_types.specs.declared.form.Ty.TheVariants.{Class}
use Rattle.jc_types.specs.declared.ids.ClassId.{ClassId}
use Rattle.jc_types.specs.declared.ids.FieldId.{FieldId}
use Rattle.jc_types.specs.declared.ids.MethodId.{MethodId}
use Rattle.jc_types.specs.Accessors.{class_named, field_type_of, method_kind_of, method_owner_of, params_of, result_of, vars_of}
use Rattle.jc_types.specs.Arrays.{element}
use Rattle.jc_types.specs.Erasing.{erasure}
use Rattle.jc_judge.specs.declared.question.Answer.TheVariants.{Yes}
use Rattle.jc_judge.specs.Capturing.{capture}
use Rattle.jc_judge.specs.Deciding.{answer_of}
use Rattle.jc_judge.specs.Views.{view}
use Rattle.jc_overriding.specs.Overriding.{select}
use Rattle.jc_overriding.specs.Viewing.{is_static, own_type}
use Rattle.jc_lub.specs.Lubs.{lub}
use Rattle.jc_repair.specs.Repairing.{repaired}
use Rattle.jc_heaps.specs.Classes.{class_of}
use Rattle.jc_heaps.specs.Layout.{field_class, is_static as is_static_field, or_object}
use Rattle.jc_typed.specs.declared.lists.Capture.{Capture}
use Rattle.jc_typed.specs.declared.program.Body.{Body}
use Rattle.jc_typed.specs.declared.program.TypedMethod.{TypedMethod}
use Rattle.jc_typed.specs.declared.program.TypedProgram.{TypedProgram}
use Rattle.jc_typed.specs.Trees.{Step, Expr, NoExpr, expr, Operand, NoOperand, operand, Form, Fixed, Null, Local, This, StaticField, Field, Element, Length, Prefix, Chain, AllOf, AnyOf, InstanceOf, Conditional, Assign, Compound, Change, Call, New, NewArray, ArrayOf, Cast, Variable, LocalVariable, StaticVariable, FieldVariable, ElementVariable, Operands, NoOperands, MoreOperands, Links, NoLinks, MoreLinks, Declared, NoDeclared, MoreDeclared, Stmt, stmt, StmtForm, Empty, Block, Locals, Effect, If, Labelled, While, Do, For, ForArray, ForIterable, Switch, Return, Break, Continue, Throw, Try, Construct, Initialise, Stmts, NoStmts, MoreStmts, Arms, NoArms, MoreArms, Catches, NoCatches, MoreCatches}
use Rattle.jc_typed.specs.declared.nodes.Node.{Node}
use Rattle.jc_typed.specs.Parts.{stmts_of, stmt_of}
use Rattle.jc_unchecked_spec.specs.Warnings.{warnings}
use Rattle.jc_meaning.specs.Kept.{arguments_in}
use Rattle.jc_meaning.specs.Programs.{initialises, local_types, selected}
use Rattle.jc_exprs_exports.specs.Captured.{captures_of, count_form, count_links, count_operand, count_operands, count_variable, count_declared, count_stmt, count_stmts, count_arms, count_catches}
use Rattle.jc_exprs_exports.specs.Formed.{FormedIs}
use Rattle.jc_exprs_exports.specs.Leading.{Leads, LeadsAs}
use Rattle.jc_exprs_exports.specs.Library.{KnownIs}
use Rattle.jc_exprs_exports.specs.Mention.{Numbers, all_speak, bounds_speak, live_expr, live_variable, nobody, speaks}
use Rattle.jc_exprs_exports.specs.Opening.{Settled, settled}
use Rattle.jc_exprs_exports.specs.Types.{Home, FormIs, ConstructIs, Led, AllLed, OperandLeads, OperandLeadsAs, IsAsked, as_array, as_class, env_to, is_change}

-- the bounds of the variables of a method that are captured where there are n of them already
abbrev pub bounds_from : Home → ℕ → ℕ → List Bounds
bounds_from H n count = take count (drop n H.env)

-- what capture makes of the type u of a form; the type of `op=`, `++` and `--` stays u itself, and is captured where a member is asked
abbrev pub own_capture : Table → ℕ → Ty → Bool → Settled
own_capture T n u true = record { ty = u; captures = []; fresh = [] }
own_capture T n u false = record { ty = (capture T n u).ty; captures = captures_of T n u; fresh = (capture T n u).fresh }

-- the variables that stand behind a node's own where a member of its operand is asked: those that the bounds of type variables make (JLS 4.4, 4.9)
pub record AskedIs (H : Home) (n : ℕ) (ty : Ty) (ss : List Step) (captures : List Capture) (fresh : List Bounds) : Type 0 where
  pub static : Ty
  pub leads : LeadsAs (λ e. Unit {0}) H.table (env_to H n) ty ss static
  pub captured : captures ≡ (settled H.table (env_to H n) static).captures
  pub bounds : fresh ≡ (settled H.table (env_to H n) static).fresh

-- The type of a node and its captured variables, which the method lists with their bounds: those of the capture of its type, and behind them those of a member access, if its operand with
-- the steps `ss` is asked for one
pub record NodeIs (H : Home) (n : ℕ) (ty : Ty) (captures : List Capture) (form : Form) (ss : List Step) : Type 0 where
  pub before : Ty
  pub is_form : FormIs H n form before
  pub formed : FormedIs H.table (env_to H n) form before
  pub type : ty ≡ (own_capture H.table n before (is_change form)).ty
  pub behind : Settled
  pub asked :
      ((behind.captures ≡ []) × (behind.fresh ≡ []))
      ⊎ AskedIs H (n + length (own_capture H.table n before (is_change form)).captures) ty ss behind.captures behind.fresh
  pub own : captures ≡ (own_capture H.table n before (is_change form)).captures ++ behind.captures
  pub bounds : bounds_from H n (length captures) ≡ (own_capture H.table n before (is_change form)).fresh ++ behind.fresh

-- The type of an expression, and the bounds of its captured variables, name live ones alone, where n captured variables are there before it, or live ones of the variable that its value is assigned
-- to: a target may name these (JLS 15.12.2.8)
abbrev pub either : Numbers → Numbers → Numbers
either f g c = f c || g c

abbrev pub NamesLive : Home → Numbers → ℕ → Expr → Type 0
NamesLive H around n NoExpr = ⊥
NamesLive H around n (expr place ty captures form) =
    (speaks (either around (live_expr H.string n (expr place ty captures form))) ty ≡ true)
    × (bounds_speak (either around (live_expr H.string n (expr place ty captures form))) (bounds_from H (n + count_form form) (length captures)) ≡ true)

-- the branches of a conditional, and the operands of `&&` and `||` behind the first, capture the variables that the form says
abbrev pub first_count : Operands → ℕ
first_count NoOperands = 0
first_count (MoreOperands NoOperands last) = count_operand last
first_count (MoreOperands (MoreOperands before middle) last) = first_count (MoreOperands before middle)

abbrev mutual
  -- n captured variables are there before it is evaluated, and these steps are done with its value
  pub TellsExpr : Home → Numbers → ℕ → Expr → List Step → Type 0
  TellsExpr H around n NoExpr ss = ⊥
  TellsExpr H around n (expr place ty captures form) ss =
      TellsForm H n form × NodeIs H (n + count_form form) ty captures form ss × NamesLive H around n (expr place ty captures form)

  pub TellsOperand : Home → Numbers → ℕ → Operand → Type 0
  TellsOperand H around n NoOperand = ⊥
  TellsOperand H around n (operand place of_it ss) = TellsExpr H around n of_it ss

  -- the parts of a form, from left to right
  pub TellsForm : Home → ℕ → Form → Type 0
  TellsForm H n (Fixed before value named casts) = TellsOperands H n before
  TellsForm H n Null = Unit {0}
  TellsForm H n (Local x) = Unit {0}
  TellsForm H n This = Unit {0}
  TellsForm H n (StaticField before f is_simple) = TellsOperands H n before
  TellsForm H n (Field of_it f) = TellsOperand H nobody n of_it
  TellsForm H n (Element array index) = TellsOperand H nobody n array × TellsOperand H nobody (n + count_operand array) index
  TellsForm H n (Length array) = TellsOperand H nobody n array
  TellsForm H n (Prefix ops of_it) = TellsOperand H nobody n of_it
  TellsForm H n (Chain first links) = TellsOperand H nobody n first × TellsLinks H (n + count_operand first) links
  TellsForm H n (AllOf os from up_to) = TellsOperands H n os × (from ≡ n + first_count os) × (up_to ≡ n + count_operands os)
  TellsForm H n (AnyOf os from up_to) = TellsOperands H n os × (from ≡ n + first_count os) × (up_to ≡ n + count_operands os)
  TellsForm H n (InstanceOf of_it to) = TellsOperand H nobody n of_it
  TellsForm H n (Conditional test first second from up_to) =
      TellsOperand H nobody n test × TellsOperand H nobody (n + count_operand test) first × TellsOperand H nobody (n + count_operand test + count_operand first) second
      × (from ≡ n + count_operand test) × (up_to ≡ n + count_operand test + count_operand first + count_operand second)
  TellsForm H n (Assign variable value store) =
      TellsVariable H n variable × TellsOperand H (live_variable H.string n variable) (n + count_variable variable) value
  TellsForm H n (Compound variable joint left right into) = TellsVariable H n variable × TellsOperand H nobody (n + count_variable variable) right
  TellsForm H n (Change variable op from into is_prefix) = TellsVariable H n variable
  TellsForm H n (Call kind receiver m types args phase thrown is_raw) = TellsOperands H n receiver × TellsOperands H (n + count_operands receiver) args
  TellsForm H n (New m args phase thrown is_raw) = TellsOperands H n args
  TellsForm H n (NewArray lengths) = TellsOperands H n lengths
  TellsForm H n (ArrayOf elements) = TellsOperands H n elements
  TellsForm H n (Cast of_it to ss is_below) = TellsOperand H nobody n of_it

  pub TellsVariable : Home → ℕ → Variable → Type 0
  TellsVariable H n (LocalVariable place x) = Unit {0}
  TellsVariable H n (StaticVariable place before f is_simple) = TellsOperands H n before
  TellsVariable H n (FieldVariable place of_it f is_raw) = TellsOperand H nobody n of_it
  TellsVariable H n (ElementVariable place array index) = TellsOperand H nobody n array × TellsOperand H nobody (n + count_operand array) index

  pub TellsOperands : Home → ℕ → Operands → Type 0
  TellsOperands H n NoOperands = Unit {0}
  TellsOperands H n (MoreOperands before last) = TellsOperands H n before × TellsOperand H nobody (n + count_operands before) last

  pub TellsLinks : Home → ℕ → Links → Type 0
  TellsLinks H n NoLinks = Unit {0}
  TellsLinks H n (MoreLinks before joint left right) = TellsLinks H n before × TellsOperand H nobody (n + count_links before) right

-- ---- statements (JLS 14): a variable's initialiser, the value of a `return` and of a field's initialiser lead to the declared type, uncaptured

-- the declared type of a variable, of the method's result, and of a field, if there is one
abbrev pub LeadsTo : Home → ℕ → Option Ty → Operand → Type 0
LeadsTo H n None o = ⊥
LeadsTo H n (Some t) o = OperandLeads H n o t

-- at most one operand, which leads there
abbrev pub OptionalLeads : Home → ℕ → Option Ty → Operands → Type 0
OptionalLeads H n t NoOperands = Unit {0}
OptionalLeads H n t (MoreOperands before last) = (before ≡ NoOperands) × LeadsTo H n t last

abbrev pub TellsDeclared : Home → ℕ → Declared → Type 0
TellsDeclared H n NoDeclared = Unit {0}
TellsDeclared H n (MoreDeclared before place x value) =
    TellsDeclared H n before × TellsOperands H (n + count_declared before) value
    × OptionalLeads H (n + count_declared before + count_operands value) (slice_get H.locals x) value

-- An element of an enhanced `for`: its type is the captured one of u, of which the variables are the next ones, and it leads to the variable's type (JLS 14.14.2)
pub record ElementIs (H : Home) (n : ℕ) (u ty : Ty) (captures : List Capture) (ss : List Step) (x : ℕ) : Type 0 where
  pub own : captures ≡ captures_of H.table n u
  pub bounds : bounds_from H n (length captures) ≡ (capture H.table n u).fresh
  pub type : ty ≡ (capture H.table n u).ty
  pub leads : (t : Ty) × (slice_get H.locals x ≡ Some t) × Leads H.table (env_to H (n + length captures)) ty ss t

-- of an array its element type, of an Iterable the argument of the view as that, or Object where it is raw
abbrev pub element_or_object : List Ty → Ty
element_or_object [] = Class (record { 0 = 0 }) []
element_or_object (t ∷ ts) = t

abbrev pub IterableOf : Home → ℕ → ClassId → Operand → Ty → Type 0
IterableOf H n iterable o u = IsAsked H n (as_class iterable) (λ s. (v : Ty) × (view H.table iterable s ≡ Some v) × (u ≡ element_or_object (arguments_in (Some v)))) o

-- each alternative of a catch clause is a class without parameters, and the variable's type is the one alternative, or the least upper bound of all, repaired (JLS 14.20)
abbrev pub AreClasses : Table → List Ty → Type 0
AreClasses T [] = Unit {0}
AreClasses T (x ∷ xs) = ((k : ClassId) × (x ≡ Class k []) × (vars_of T k ≡ [])) × AreClasses T xs

abbrev pub CaughtIs : Table → List Bounds → List Ty → Option Ty → Type 0
CaughtIs T env [] t = ⊥
CaughtIs T env (x ∷ []) t = t ≡ Some x
CaughtIs T env (x ∷ y ∷ xs) t = t ≡ Some (repaired T env (lub T env (x ∷ y ∷ xs)))

abbrev pub AlternativesAre : Home → ℕ → List Ty → Option Ty → Type 0
AlternativesAre H n types t = AreClasses H.table types × CaughtIs H.table (env_to H n) types t

-- what is thrown is below Throwable, and is used as one (JLS 14.18)
abbrev pub throwable : Table → Ty
throwable T = Class (class_named T (codes "java.lang.Throwable")) []

abbrev pub IsThrown : Home → ℕ → Operand → Type 0
IsThrown H n o =
    (t : Ty) × (answer_of H.table 64 (env_to H n) t (throwable H.table) ≡ Yes) × OperandLeadsAs (λ e. e ≡ erasure H.table [] (throwable H.table)) H n o t

-- an initialiser sets a field of the class that its method is of (JLS 8.3.2)
abbrev pub IsOwnField : Home → FieldId → Type 0
IsOwnField H f = (is_static_field H.table f ≡ true) ⊎ ((own : Ty) × (slice_get H.locals 0 ≡ Some own) × (class_of own ≡ Some (field_class H.table f)))

abbrev mutual
  pub TellsStmt : Home → ClassId → ℕ → Stmt → Type 0
  TellsStmt H iterable n (stmt place form) = TellsStmtForm H iterable n form

  pub TellsStmtForm : Home → ClassId → ℕ → StmtForm → Type 0
  TellsStmtForm H iterable n Empty = Unit {0}
  TellsStmtForm H iterable n (Block ss) = TellsStmts H iterable n ss
  TellsStmtForm H iterable n (Locals ds) = TellsDeclared H n ds
  TellsStmtForm H iterable n (Effect of_it) = TellsOperand H nobody n of_it × Led H of_it
  TellsStmtForm H iterable n (If arms other) = TellsArms H iterable n arms × TellsStmts H iterable (n + count_arms arms) other
  TellsStmtForm H iterable n (Labelled target body) = TellsStmt H iterable n body
  TellsStmtForm H iterable n (While target test body) = TellsOperand H nobody n test × Led H test × TellsStmt H iterable (n + count_operand test) body
  TellsStmtForm H iterable n (Do target body test) = TellsStmt H iterable n body × TellsOperand H nobody (n + count_stmt body) test × Led H test
  TellsStmtForm H iterable n (For target ds before test update body) =
      AllLed H before × AllLed H test × AllLed H update × TellsDeclared H n ds × TellsOperands H (n + count_declared ds) before × TellsOperands H (n + count_declared ds + count_operands before) test
      × TellsOperands H (n + count_declared ds + count_operands before + count_operands test) update
      × TellsStmt H iterable (n + count_declared ds + count_operands before + count_operands test + count_operands update) body
  TellsStmtForm H iterable n (ForArray target of_it ty captures ss x body) =
      TellsOperand H nobody n of_it
      × ((u : Ty) × IsAsked H (n + count_operand of_it) (as_array H (n + count_operand of_it)) (λ s. element s ≡ Some u) of_it × ElementIs H (n + count_operand of_it) u ty captures ss x)
      × TellsStmt H iterable (n + count_operand of_it + length captures) body
  TellsStmtForm H iterable n (ForIterable target of_it ty captures ss x body) =
      TellsOperand H nobody n of_it
      × ((u : Ty) × IterableOf H (n + count_operand of_it) iterable of_it u × ElementIs H (n + count_operand of_it) u ty captures ss x)
      × TellsStmt H iterable (n + count_operand of_it + length captures) body
  TellsStmtForm H iterable n (Switch target of_it cases ss) = TellsOperand H nobody n of_it × Led H of_it × TellsStmts H iterable (n + count_operand of_it) ss
  TellsStmtForm H iterable n (Return value) = TellsOperands H n value × OptionalLeads H (n + count_operands value) H.result value
  TellsStmtForm H iterable n (Break target) = Unit {0}
  TellsStmtForm H iterable n (Continue target) = Unit {0}
  TellsStmtForm H iterable n (Throw of_it) = TellsOperand H nobody n of_it × IsThrown H (n + count_operand of_it) of_it
  TellsStmtForm H iterable n (Try body catches last copies) =
      TellsStmt H iterable n body × TellsCatches H iterable (n + count_stmt body) catches × TellsStmts H iterable (n + count_stmt body + count_catches catches) last
  TellsStmtForm H iterable n (Construct m args phase thrown is_raw) = TellsOperands H n args × ConstructIs H (n + count_operands args) m args phase is_raw
  TellsStmtForm H iterable n (Initialise f value) =
      TellsOperand H nobody n value × LeadsTo H (n + count_operand value) (field_type_of H.table f) value × IsOwnField H f

  pub TellsStmts : Home → ClassId → ℕ → Stmts → Type 0
  TellsStmts H iterable n NoStmts = Unit {0}
  TellsStmts H iterable n (MoreStmts before last) = TellsStmts H iterable n before × TellsStmt H iterable (n + count_stmts before) last

  pub TellsArms : Home → ClassId → ℕ → Arms → Type 0
  TellsArms H iterable n NoArms = Unit {0}
  TellsArms H iterable n (MoreArms before test body) =
      TellsArms H iterable n before × TellsOperand H nobody (n + count_arms before) test × Led H test × TellsStmt H iterable (n + count_arms before + count_operand test) body

  pub TellsCatches : Home → ClassId → ℕ → Catches → Type 0
  TellsCatches H iterable n NoCatches = Unit {0}
  TellsCatches H iterable n (MoreCatches before place x types body) =
      TellsCatches H iterable n before × AlternativesAre H (n + count_catches before) types (slice_get H.locals x) × TellsStmt H iterable (n + count_catches before) body

-- what a method's body stands in
abbrev pub home_of : TypedProgram → TypedMethod → Home
home_of P m = record { table = P.table; string = P.known.string; env = m.captured.bounds; locals = local_types m.locals; result = result_of P.table m.id }

-- the class Iterable, whose method an enhanced `for` calls
abbrev pub iterable_of : TypedProgram → ClassId
iterable_of P = or_object (method_owner_of P.table P.known.iterating.iterator)

-- The body of a typed method: the call of another constructor, the initialisers and the block, one behind the other. Its parameters are its first variables, behind `this`, and
-- no variable's type names a captured one
abbrev pub TellsBody : Home → ClassId → List Node → Option Body → Type 0
TellsBody H iterable nodes None = Unit {0}
TellsBody H iterable nodes (Some b) =
    TellsStmts H iterable 0 (stmts_of nodes b.call) × TellsStmts H iterable (count_stmts (stmts_of nodes b.call)) (stmts_of nodes b.initialisers)
    × TellsStmt H iterable (count_stmts (stmts_of nodes b.call) + count_stmts (stmts_of nodes b.initialisers)) (stmt_of nodes b.rest)

abbrev pub first_locals : Table → MethodId → Bool → List Ty
first_locals T m true = params_of T m
first_locals T m false = own_type T (or_object (method_owner_of T m)) ∷ params_of T m

-- whether a method has no receiver: a static method or a static initialiser
abbrev pub is_free : Table → MethodId → Bool
is_free T m = is_static T m || initialises (method_kind_of T m)

pub record TellsMethod (P : TypedProgram) (m : TypedMethod) : Type 0 where
  pub locals : all_speak nobody (local_types m.locals) ≡ true
  pub begins : take (length (first_locals P.table m.id (is_free P.table m.id))) (local_types m.locals) ≡ first_locals P.table m.id (is_free P.table m.id)
  pub body : TellsBody (home_of P m) (iterable_of P) m.nodes m.body

-- each method of a program, in the order of the table
abbrev pub TellsMethods : TypedProgram → ℕ → List TypedMethod → Type 0
TellsMethods P n [] = Unit {0}
TellsMethods P n (m ∷ ms) = (m.id.0 ≡ n) × TellsMethod P m × TellsMethods P (n + 1) ms

-- What typing tells of a program. What its trees are once their types are erased (`jc_right`) tells the rest: which types operators take, how many operands there are, which members may be named
pub record IsTyped (P : TypedProgram) : Type 0 where
  pub known : KnownIs P.table P.known
  pub as_many : length P.methods ≡ length P.table.methods
  pub methods : TellsMethods P 0 P.methods
  pub selections : (k : ClassId) (m : MethodId) (b : MethodId) → selected P k m ≡ Some b → select P.table k m ≡ Some b

-- No unchecked warning is told of it. So no step upwards is marked; no cast is one of which the machine can't tell that it holds; erasure changes no parameter of a member of a raw type that is
-- called, and no type of a field of one that is assigned; no result goes unchecked into the one that it stands for; no supertype is raw; and each array of arguments is reifiable
abbrev pub IsUnwarned : TypedProgram → Type 0
IsUnwarned P = warnings P ≡ []
