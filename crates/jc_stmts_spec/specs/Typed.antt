-- The typing of a body, and the rules that are broken in it (JLS 8.8.7.1, 14, 15).
use Rattle.std.specs.Prelude.{◌≡◌, ℕ, zero, suc, ◌+◌, ◌==◌, ◌||◌, Bool, true, false, List, [], ◌∷◌, ◌++◌, length, Option, Some, None, slice_get, if◌then◌else◌, codes}
use Rattle.jc_rules.specs.declared.rule.Place.{Place}
use Rattle.jc_rules.specs.declared.rule.Refusal.{Refusal}
use Rattle.jc_tree.specs.declared.expression.Expr.{Expr as Parsed}
use Rattle.jc_tree.specs.declared.statement.Stmt.{Stmt as Source}
use Rattle.jc_types.specs.declared.declarations.ClassDecl.{ClassDecl}
use Rattle.jc_types.specs.declared.declarations.FieldDecl.{FieldDecl}
use Rattle.jc_types.specs.declared.declarations.MethodDecl.{MethodDecl}
use Rattle.jc_types.specs.declared.declarations.ParamName.{ParamName}
use Rattle.jc_types.specs.declared.form.Ty.{Ty}
use Rattle.jc_types.specs.declared.ids.ClassId.{ClassId}
use Rattle.jc_types.specs.declared.ids.FieldId.{FieldId}
use Rattle.jc_types.specs.declared.ids.MethodId.{MethodId}
use Rattle.jc_types.specs.declared.table.Table.{Table}
use Rattle.jc_types.specs.Accessors.{method_place_of, params_of, result_of}
use Rattle.jc_types.specs.Breaks.{IsOf}
use Rattle.jc_overriding.specs.Viewing.{is_static, own_type}
use Rattle.jc_overriding.specs.Overriding.{owner}
use Rattle.jc_declares.specs.declared.heads.Heads.{Heads}
use Rattle.jc_declares.specs.HeadBreaks.{class_file}
use Rattle.jc_declares.specs.Looking.{Knowledge}
use Rattle.jc_typed.specs.declared.nodes.Node.{Node}
use Rattle.jc_typed.specs.declared.program.Body.{Body}
use Rattle.jc_typed.specs.declared.program.Local.{Local}
use Rattle.jc_typed.specs.declared.program.TypedMethod.{TypedMethod}
use Rattle.jc_typed.specs.Parts.{nowhere, stmt_of, stmts_of}
use Rattle.jc_typed.specs.Trees.{Operand, NoOperand, Stmt, stmt, StmtForm, Block, Construct, Empty, Initialise, Stmts, NoStmts, MoreStmts}
use Rattle.jc_bridges_spec.specs.Entering.{entry_checks}
use Rattle.jc_exprs_nodes_spec.specs.Told.{Told, Fine, Broken, Out, Run, breaking, breaks, by_rule, fine}
use Rattle.jc_exprs_parts_spec.specs.Constants.{constants_of}
use Rattle.jc_exprs_parts_spec.specs.Fields.{declared_field}
use Rattle.jc_exprs_parts_spec.specs.Names.{super_type}
use Rattle.jc_exprs_spec.specs.Typing.{constructed, initialised}
use Rattle.jc_exprs_parts_spec.specs.Worlds.{World, Here, Instance, Static, Early, Initialising, LocalIn, this_type}
use Rattle.jc_stmts_spec.specs.Assembling.{Made, assemble}
use Rattle.jc_stmts_spec.specs.Bodies.{Begins, WithThis, WithSuper, WithImplied, WithNone, Initialiser, OfField, OfBlock, MethodBody}
use Rattle.jc_stmts_spec.specs.Courses.{Course, items_on}
use Rattle.jc_stmts_spec.specs.Plans.{Jumps, Returns, Never, NoValue, AValue, enclosed, plan}

-- ---- where a body stands

abbrev pub method_scope_in : Option MethodDecl → ℕ
method_scope_in (Some m) = m.scope.0
method_scope_in None = 0

abbrev pub class_scope_in : Option ClassDecl → ℕ
class_scope_in (Some c) = c.scope.0
class_scope_in None = 0

abbrev pub here_if : Bool → Here
here_if true = Static
here_if false = Instance

abbrev pub world_at : Table → Heads → Knowledge → ClassId → ℕ → Here → Option Initialising → List LocalIn → World
world_at T H K k scope here i ls =
    record {
      table = T;
      heads = H;
      knowledge = K;
      constants = constants_of T H K;
      class = k;
      scope = scope;
      here = here;
      initialising = i;
      locals = ls;
    }

-- in a method, with the locals in scope; among the arguments of the call that a constructor begins with there is no instance yet
abbrev pub method_world : Table → Heads → Knowledge → MethodId → Here → List LocalIn → World
method_world T H K m here ls = world_at T H K (owner T m) (method_scope_in (slice_get T.methods m.0)) here None ls

-- in an initialiser of a class
abbrev pub initialiser_world : Table → Heads → Knowledge → ClassId → Bool → Option FieldId → List LocalIn → World
initialiser_world T H K k is_static f ls =
    world_at T H K k (class_scope_in (slice_get T.classes k.0)) (here_if is_static) (Some (record { is_static = is_static; field = f })) ls

-- ---- the first locals: `this` of an instance, and then the parameters

abbrev pub or_nowhere : Option Place → Place
or_nowhere (Some p) = p
or_nowhere None = nowhere

abbrev pub method_place : Table → MethodId → Place
method_place T m = or_nowhere (method_place_of T m)

abbrev pub this_local : Table → MethodId → Bool → List Local
this_local T m true = []
this_local T m false = record { place = method_place T m; name = codes "this"; ty = own_type T (owner T m); is_final = true } ∷ []

abbrev pub param_names_in : Option MethodDecl → List ParamName
param_names_in (Some m) = m.param_names
param_names_in None = []

abbrev pub param_locals : List ParamName → List Ty → List Local
param_locals [] ts = []
param_locals (p ∷ ps) [] = []
param_locals (p ∷ ps) (t ∷ ts) = record { place = p.place; name = p.name; ty = t; is_final = p.is_final } ∷ param_locals ps ts

abbrev pub in_scope : ℕ → List Local → List LocalIn
in_scope n [] = []
in_scope n (l ∷ ls) = record { name = l.name; number = n; ty = l.ty; is_final = l.is_final; constant = None } ∷ in_scope (n + 1) ls

abbrev pub params : Table → MethodId → List Local
params T m = param_locals (param_names_in (slice_get T.methods m.0)) (params_of T m)

abbrev pub param_scope : Table → MethodId → List LocalIn
param_scope T m = in_scope (length (this_local T m (is_static T m))) (params T m)

-- ---- a body, from its first part to its last: the state behind it, and the statements so far

pub record Parts : Type 0 where
  pub course : Course
  pub stmts : Stmts

abbrev pub first_course : Table → MethodId → Course
first_course T m =
    record {
      locals = param_scope T m;
      all = this_local T m (is_static T m) ++ params T m;
      scopes = [];
      caught = [];
      env = [];
      broken = [];
      answers = [];
    }

-- a part begins with these locals in scope, and no answer
abbrev pub opened : List LocalIn → Course → Course
opened ls c = record c { locals = ls; scopes = []; answers = [] }

-- ---- the call that a constructor begins with (JLS 8.8.7.1)

abbrev pub place_in : World → ℕ → Place
place_in W n = record { file = class_file W.heads W.class.0; at = n }

abbrev pub super_called : World → Place → List Parsed → Option Ty → Run StmtForm
super_called W place es None = by_rule 603 place
super_called W place es (Some t) = constructed W place t es

abbrev pub begun_run : World → Place → Begins → Run StmtForm
begun_run W place (WithThis n es) = constructed W (place_in W n) (this_type W) es
begun_run W place (WithSuper n es) = super_called W (place_in W n) es (super_type W)
begun_run W place WithImplied = super_called W place [] (super_type W)
begun_run W place WithNone = fine Empty

-- an implied one stands at the constructor
abbrev pub begun_place : World → Place → Begins → Place
begun_place W place (WithThis n es) = place_in W n
begun_place W place (WithSuper n es) = place_in W n
begun_place W place _ = place

abbrev pub begun_stmts : Place → Told StmtForm → Stmts
begun_stmts place (Fine Empty) = NoStmts
begun_stmts place (Fine f) = MoreStmts NoStmts (stmt place f)
begun_stmts place (Broken b bs) = NoStmts

abbrev pub early_world : Table → Heads → Knowledge → MethodId → World
early_world T H K m = method_world T H K m Early (param_scope T m)

abbrev pub begun_by : World → Place → Begins → Course → Parts
begun_by W place b c =
    let o = begun_run W place b c.env in
    record { course = record c { env = o.env; broken = c.broken ++ breaks o.told }; stmts = begun_stmts (begun_place W place b) o.told }

abbrev pub begun : Table → Heads → Knowledge → MethodBody → Course → Parts
begun T H K b c = begun_by (early_world T H K b.method) (method_place T b.method) b.begins c

-- ---- initialisers (JLS 8.3.2, 8.6, 8.7)

abbrev pub field_place_in : Option FieldDecl → Place
field_place_in (Some f) = f.place
field_place_in None = nowhere

abbrev pub operand_or : Told Operand → Operand
operand_or (Fine o) = o
operand_or (Broken b bs) = NoOperand

abbrev pub field_initialised : Table → FieldId → Out Operand → Parts → Parts
field_initialised T f o p =
    record {
      course = record p.course { env = o.env; broken = p.course.broken ++ breaks o.told };
      stmts = MoreStmts p.stmts (stmt (field_place_in (slice_get T.fields f.0)) (Initialise f (operand_or o.told)));
    }

-- in an initialiser nothing is returned
abbrev pub no_jumps : Jumps
no_jumps = record { round = []; returns = Never }

abbrev pub block_behind : ℕ → ℕ → Course → Stmts → Made Stmts → Parts
block_behind file n c before m = record { course = c; stmts = MoreStmts before (stmt (record { file = file; at = n }) (Block m.it)) }

abbrev pub blocked : ℕ → ℕ → List Source → Course → Stmts → Parts
blocked file n ss c before = block_behind file n c before (assemble file no_jumps ss c.answers)

abbrev pub initialised_more : Table → Heads → Knowledge → ClassId → Bool → Initialiser → Parts → Parts
initialised_more T H K k is_static (OfField f i) p =
    field_initialised T f (initialised (initialiser_world T H K k is_static (Some f) []) (declared_field T f) i p.course.env) p
initialised_more T H K k is_static (OfBlock n ss) p =
    blocked (class_file H k.0) n ss (items_on (initialiser_world T H K k is_static None) None (opened [] p.course) (enclosed (plan no_jumps ss))) p.stmts

abbrev pub initialised_all : Table → Heads → Knowledge → ClassId → Bool → List Initialiser → Parts → Parts
initialised_all T H K k is_static [] p = p
initialised_all T H K k is_static (i ∷ is) p = initialised_all T H K k is_static is (initialised_more T H K k is_static i p)

-- ---- the block

abbrev pub returns_of : Option Ty → Returns
returns_of None = NoValue
returns_of (Some t) = AValue

abbrev pub method_jumps : Table → MethodId → Jumps
method_jumps T m = record { round = []; returns = returns_of (result_of T m) }

abbrev pub rest_course : Table → Heads → Knowledge → MethodBody → Course → Course
rest_course T H K b c =
    items_on (method_world T H K b.method (here_if (is_static T b.method))) (result_of T b.method) (opened (param_scope T b.method) c)
    (enclosed (plan (method_jumps T b.method) b.rest))

abbrev pub rest_stmt : Table → MethodBody → Course → Stmt
rest_stmt T b c =
    stmt (method_place T b.method) (Block (assemble (method_place T b.method).file (method_jumps T b.method) b.rest c.answers).it)

-- ---- the whole

pub record Whole : Type 0 where
  pub course : Course
  pub call : Stmts
  pub initialisers : Stmts
  pub rest : Stmt

abbrev pub whole_of : Table → Heads → Knowledge → MethodBody → Parts → Parts → Course → Whole
whole_of T H K b call is c = record { course = c; call = call.stmts; initialisers = is.stmts; rest = rest_stmt T b c }

abbrev pub whole_behind : Table → Heads → Knowledge → MethodBody → Parts → Parts → Whole
whole_behind T H K b call is = whole_of T H K b call is (rest_course T H K b is.course)

abbrev pub whole_from : Table → Heads → Knowledge → MethodBody → Parts → Whole
whole_from T H K b call =
    whole_behind T H K b call
    (initialised_all T H K (owner T b.method) (is_static T b.method) b.initialisers (record { course = call.course; stmts = NoStmts }))

unfoldable pub whole : Table → Heads → Knowledge → MethodBody → Whole
whole T H K b = whole_from T H K b (begun T H K b (first_course T b.method))

-- ---- cycles of constructors that call each other by `this` (JLS 8.8.7.1): 620 at each such call

abbrev pub target_in : Told StmtForm → Option MethodId
target_in (Fine (Construct m args phase thrown is_raw)) = Some m
target_in _ = None

-- the constructor that a call by `this` means, where it has a typing
abbrev pub this_target : Table → Heads → Knowledge → MethodId → Begins → Option MethodId
this_target T H K m (WithThis n es) = target_in (begun_run (early_world T H K m) (method_place T m) (WithThis n es) []).told
this_target T H K m _ = None

abbrev pub next_in : Table → Heads → Knowledge → List MethodBody → MethodId → Option MethodId
next_in T H K [] m = None
next_in T H K (b ∷ bs) m = if b.method.0 == m.0 then this_target T H K b.method b.begins else next_in T H K bs m

-- from one constructor to another in at most n further steps
abbrev pub leads : (MethodId → Option MethodId) → ℕ → Option MethodId → MethodId → Bool
leads next zero None m = false
leads next zero (Some k) m = k.0 == m.0
leads next (suc n) None m = false
leads next (suc n) (Some k) m = (k.0 == m.0) || leads next n (next k) m

abbrev pub cycle_at : Place → Bool → List Refusal
cycle_at place true = breaking 620 place ∷ []
cycle_at place false = []

-- where these are the bodies of the constructors of its class
abbrev pub cycle_breaks : Table → Heads → Knowledge → List MethodBody → MethodBody → Begins → List Refusal
cycle_breaks T H K calls b (WithThis n es) =
    cycle_at (place_in (early_world T H K b.method) n) (leads (next_in T H K calls) (length calls) (next_in T H K calls b.method) b.method)
cycle_breaks T H K calls b _ = []

-- ---- what is promised

-- the rules that are broken in a body, where `calls` are the bodies of the constructors of its class
abbrev pub body_breaks : Table → Heads → Knowledge → List MethodBody → MethodBody → List Refusal
body_breaks T H K calls b = (whole T H K b).course.broken ++ cycle_breaks T H K calls b b.begins

abbrev pub BreaksBody : Table → Heads → Knowledge → List MethodBody → MethodBody → Refusal → Type 0
BreaksBody T H K calls b refusal = IsOf refusal (body_breaks T H K calls b)

-- the arena has the statements of the body
abbrev pub HasStmts : List Node → Option Body → Whole → Type 0
HasStmts nodes None w = ⊥
HasStmts nodes (Some b) w = (stmts_of nodes b.call ≡ w.call) × (stmts_of nodes b.initialisers ≡ w.initialisers) × (stmt_of nodes b.rest ≡ w.rest)

-- no rule is broken in the body, and this is its typing
pub record IsBody (T : Table) (H : Heads) (K : Knowledge) (calls : List MethodBody) (b : MethodBody) (m : TypedMethod) : Type 0 where
  pub unbroken : body_breaks T H K calls b ≡ []
  pub id : m.id ≡ b.method
  pub locals : m.locals ≡ (whole T H K b).course.all
  pub captured : m.captured.bounds ≡ (whole T H K b).course.env
  pub stmts : HasStmts m.nodes m.body (whole T H K b)
  pub checks : m.entry_checks ≡ entry_checks T b.method
