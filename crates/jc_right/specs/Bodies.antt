-- When erased statements and methods are right (JLS 14, 8.4, 8.8).
use Rattle.std.specs.Prelude.{◌≡◌, ℕ, suc, ◌<◌, ◌≤◌, ℤ, int_le, not, ◌&&◌, ◌||◌, Bool, true, false, List, [], ◌∷◌, map, length, take, Option, Some, None}
use Rattle.jc_types.specs.declared.declarations.MethodKind.{MethodKind}
use Rattle.jc_types.specs.declared.declarations.MethodKind.TheVariants as method_kind
use Rattle.jc_types.specs.declared.declarations.Modifiers.{Modifiers}
use Rattle.jc_types.specs.declared.erased.Erased.{Erased}
use Rattle.jc_types.specs.declared.form.Primitive.TheVariants.{Boolean, Int}
use Rattle.jc_types.specs.declared.form.Ty.{Ty}
use Rattle.jc_types.specs.declared.ids.FieldId.{FieldId}
use Rattle.jc_types.specs.declared.ids.MethodId.{MethodId}
use Rattle.jc_types.specs.declared.table.Table.{Table}
use Rattle.jc_types.specs.Accessors.{method_kind_of, method_modifiers_of, params_of, result_of}
use Rattle.jc_types.specs.Erasing.{erasure}
use Rattle.jc_heaps.specs.Classes.{is_array, element_of}
use Rattle.jc_heaps.specs.Layout.{field_class, is_static}
use Rattle.jc_typed.specs.declared.nodes.Node.{Node}
use Rattle.jc_typed.specs.declared.program.Body.{Body}
use Rattle.jc_typed.specs.declared.program.Known.{Known}
use Rattle.jc_typed.specs.declared.program.Local.{Local}
use Rattle.jc_typed.specs.declared.program.TypedMethod.{TypedMethod}
use Rattle.jc_typed.specs.Bulk.{operand_count}
use Rattle.jc_typed.specs.Copies.{is_among}
use Rattle.jc_typed.specs.Parts.{stmts_of, stmt_of}
use Rattle.jc_typed.specs.Trees.{Case, Step, Operands, NoOperands, MoreOperands, Declared, NoDeclared, MoreDeclared, Stmt, stmt, StmtForm, Empty, Block, Locals, Effect, If, Labelled, While, Do, For, ForArray, ForIterable, Switch, Return, Break, Continue, Throw, Try, Construct, Initialise, Stmts, NoStmts, MoreStmts, Arms, NoArms, MoreArms, Catches, NoCatches, MoreCatches}
use Rattle.jc_right.specs.Going.{class, in_range, is_small, prim, prim_of, throwable}
use Rattle.jc_right.specs.Values.{Scene, behind_steps, declared_type, erased, field_erased, local_type, operand_type}
use Rattle.jc_right.specs.Right.{Is, Goes, prim_passes, RightSteps, RightDone, RightOperand, RightTo, RightDropped, RightArgs, in_modifiers, is_constructor, is_field, owner}

-- inside a statement that `break` may name, and inside a loop, which `continue` may name too (JLS 14.15, 14.16)
abbrev pub inside : Scene → ℕ → Scene
inside S target = record S { breaks = target ∷ S.breaks }

abbrev pub in_loop : Scene → ℕ → Scene
in_loop S target = record S { breaks = target ∷ S.breaks; continues = target ∷ S.continues }

-- no statement round one that may be named has its number
abbrev pub IsFresh : Scene → ℕ → Type 0
IsFresh S target = Is (not (is_among target S.breaks))

-- at most one operand, which goes where an erased type is wanted
abbrev pub RightOptional : Scene → Erased → Operands → Type 0
RightOptional S e NoOperands = Unit {0}
RightOptional S e (MoreOperands before last) = (operand_count before ≡ 0) × RightTo S e last

-- .. exactly one, or none, as there is a type or not
abbrev pub RightValue : Scene → Option Erased → Operands → Type 0
RightValue S None NoOperands = Unit {0}
RightValue S (Some e) (MoreOperands before last) = (operand_count before ≡ 0) × RightTo S e last
RightValue S _ _ = ⊥

-- variables with their initialisers
abbrev pub RightDeclared : Scene → Declared → Type 0
RightDeclared S NoDeclared = Unit {0}
RightDeclared S (MoreDeclared before place n value) = RightDeclared S before × (n < length S.locals) × RightOptional S (local_type S n) value

-- an element goes into the variable of an enhanced `for` by its steps
abbrev pub RightTaken : Scene → Erased → List Step → ℕ → Type 0
RightTaken S e ss n = RightSteps S e ss × (n < length S.locals) × Goes S (behind_steps S e ss) (local_type S n)

-- labels stand at statements of the `switch`; each number is an int, and no two are the same (JLS 14.11)
abbrev pub is_key : ℤ → Option ℤ → Bool
is_key n None = false
is_key n (Some m) = int_le n m && int_le m n

abbrev pub has_key : ℤ → List Case → Bool
has_key n [] = false
has_key n (c ∷ cs) = is_key n c.key || has_key n cs

abbrev pub KeyRight : Option ℤ → List Case → Type 0
KeyRight None cs = Unit {0}
KeyRight (Some n) cs = Is (in_range Int n) × Is (not (has_key n cs))

abbrev pub CasesWithin : ℕ → List Case → Type 0
CasesWithin n [] = Unit {0}
CasesWithin n (c ∷ cs) = (c.skips ≤ n) × KeyRight c.key cs × CasesWithin n cs

-- how many statements a list has
abbrev pub stmt_count : Stmts → ℕ
stmt_count NoStmts = 0
stmt_count (MoreStmts before last) = suc (stmt_count before)

-- the alternatives of a catch clause are below Throwable, and go into its variable
abbrev pub RightAlternatives : Scene → ℕ → List Ty → Type 0
RightAlternatives S n [] = Unit {0}
RightAlternatives S n (t ∷ ts) = Goes S (erased S t) (throwable S.table) × Goes S (erased S t) (local_type S n) × RightAlternatives S n ts

-- an initialiser sets a static field, or one of this object
abbrev pub RightInitialised : Scene → Bool → FieldId → Type 0
RightInitialised S true f = Unit {0}
RightInitialised S false f = Is (is_field S.table false f) × (0 < length S.locals) × Goes S (local_type S 0) (class (field_class S.table f))

abbrev mutual
  pub RightStmt : Scene → Stmt → Type 0
  RightStmt S (stmt place form) = RightStmtForm S form

  -- by the form of the statement
  pub RightStmtForm : Scene → StmtForm → Type 0
  RightStmtForm S Empty = Unit {0}
  RightStmtForm S (Block ss) = RightStmts S ss
  RightStmtForm S (Locals ds) = RightDeclared S ds
  RightStmtForm S (Effect of_it) = RightDone S of_it
  RightStmtForm S (If arms other) = RightArms S arms × RightStmts S other
  RightStmtForm S (Labelled target body) = IsFresh S target × RightStmt (inside S target) body
  RightStmtForm S (While target test body) = IsFresh S target × RightTo S (prim Boolean) test × RightStmt (in_loop S target) body
  RightStmtForm S (Do target body test) = IsFresh S target × RightStmt (in_loop S target) body × RightTo S (prim Boolean) test
  RightStmtForm S (For target ds before test update body) =
      IsFresh S target × RightDeclared S ds × RightDropped S before × RightOptional S (prim Boolean) test × RightDropped S update × RightStmt (in_loop S target) body
  RightStmtForm S (ForArray target of_it ty captures ss n body) =
      IsFresh S target × RightOperand S of_it × Is (is_array (operand_type S of_it)) × RightTaken S (element_of (operand_type S of_it)) ss n × RightStmt (in_loop S target) body
  RightStmtForm S (ForIterable target of_it ty captures ss n body) =
      IsFresh S target × RightTo S (owner S.table S.known.iterating.iterator) of_it × RightTaken S (declared_type S (result_of S.table S.known.iterating.next)) ss n
      × RightStmt (in_loop S target) body
  RightStmtForm S (Switch target of_it cases ss) =
      IsFresh S target × RightOperand S of_it × Is (prim_passes is_small (prim_of (operand_type S of_it))) × CasesWithin (stmt_count ss) cases × RightStmts (inside S target) ss
  RightStmtForm S (Return value) = RightValue S S.result value
  RightStmtForm S (Break target) = Is (is_among target S.breaks)
  RightStmtForm S (Continue target) = Is (is_among target S.continues)
  RightStmtForm S (Throw of_it) = RightTo S (throwable S.table) of_it
  RightStmtForm S (Try body catches last copies) = RightStmt S body × RightCatches S catches × RightStmts S last
  RightStmtForm S (Construct m args phase thrown is_raw) =
      Is (is_constructor (method_kind_of S.table m)) × (0 < length S.locals) × Goes S (local_type S 0) (owner S.table m)
      × RightArgs S (params_of S.table m) args × (operand_count args ≡ length (params_of S.table m))
  RightStmtForm S (Initialise f value) = RightTo S (field_erased S f) value × RightInitialised S (is_static S.table f) f

  -- all statements of a list, all arms of an `if`, and all catch clauses
  pub RightStmts : Scene → Stmts → Type 0
  RightStmts S NoStmts = Unit {0}
  RightStmts S (MoreStmts before last) = RightStmts S before × RightStmt S last

  pub RightArms : Scene → Arms → Type 0
  RightArms S NoArms = Unit {0}
  RightArms S (MoreArms before test taken) = RightArms S before × RightTo S (prim Boolean) test × RightStmt S taken

  pub RightCatches : Scene → Catches → Type 0
  RightCatches S NoCatches = Unit {0}
  RightCatches S (MoreCatches before place n types body) = RightCatches S before × (0 < length types) × (n < length S.locals) × RightAlternatives S n types × RightStmt S body

-- whether a method has a receiver, which is its variable number 0: neither a static method nor a static initialiser has one
abbrev pub has_receiver : Option MethodKind → Option Modifiers → Bool
has_receiver (Some method_kind.StaticInitialiser) m = false
has_receiver kind m = in_modifiers (λ x. not x.is_static) m

-- the erased types of the variables that a call gives: the receiver, and the parameters
abbrev pub first_types : Table → MethodId → Bool → List Erased
first_types T m true = owner T m ∷ map (erasure T []) (params_of T m)
first_types T m false = map (erasure T []) (params_of T m)

abbrev pub given_types : Table → MethodId → List Erased
given_types T m = first_types T m (has_receiver (method_kind_of T m) (method_modifiers_of T m))

-- the erased types of all variables
abbrev pub erased_locals : Table → List Local → List Erased
erased_locals T ls = map (λ l. erasure T [] l.ty) ls

abbrev pub erased_result : Table → Option Ty → Option Erased
erased_result T None = None
erased_result T (Some t) = Some (erasure T [] t)

-- what a method's body stands in
abbrev pub scene_of : Table → Known → TypedMethod → Scene
scene_of T known m = record { table = T; known = known; locals = erased_locals T m.locals; result = erased_result T (result_of T m.id); breaks = []; continues = [] }

-- the call of another constructor, the initialisers and the block
abbrev pub RightBody : Scene → List Node → Option Body → Type 0
RightBody S nodes None = Unit {0}
RightBody S nodes (Some b) = RightStmts S (stmts_of nodes b.call) × RightStmts S (stmts_of nodes b.initialisers) × RightStmt S (stmt_of nodes b.rest)

-- A method of erased trees is right: its variables begin with the receiver and the parameters, and its body is right
pub record RightMethod (T : Table) (known : Known) (m : TypedMethod) : Type 0 where
  pub begins : take (length (given_types T m.id)) (erased_locals T m.locals) ≡ given_types T m.id
  pub body : RightBody (scene_of T known m) m.nodes m.body
