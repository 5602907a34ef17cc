-- The bodies of a program: of each method that has a block, of each constructor and of each static initialiser (JLS 8.3.2, 8.4.7, 8.6, 8.7, 8.8.7, 8.8.9, 12.4.2, 12.5).
use Rattle.std.specs.Prelude.{ℕ, ◌||◌, ◌&&◌, not, Bool, true, false, List, [], ◌∷◌, ◌++◌, map, Option, Some, None, if◌then◌else◌}
use Rattle.jc_tree.specs.declared.expression.Expr.{Expr}
use Rattle.jc_tree.specs.declared.expression.Init.{Init}
use Rattle.jc_tree.specs.declared.statement.Clause.{Clause}
use Rattle.jc_tree.specs.declared.statement.Declaration.{Declaration, Declaration-F, para-Declaration}
use Rattle.jc_tree.specs.declared.statement.Member.{Member, Member-F, out-Member}
use Rattle.jc_tree.specs.declared.statement.Stmt.{Stmt, Stmt-F, out-Stmt}
use Rattle.jc_tree.specs.declared.statement.TopLevel.{TopLevel}
use Rattle.jc_tree.specs.declared.statement.TopLevel.TheVariants as top_of
use Rattle.jc_tree.specs.declared.statement.Var.{Var}
use Rattle.jc_types.specs.declared.declarations.MethodKind.{MethodKind}
use Rattle.jc_types.specs.declared.declarations.MethodKind.TheVariants as kind
use Rattle.jc_types.specs.declared.ids.ClassId.{ClassId}
use Rattle.jc_types.specs.declared.ids.FieldId.{FieldId}
use Rattle.jc_types.specs.declared.ids.MethodId.{MethodId}
use Rattle.jc_types.specs.declared.table.Table.{Table}
use Rattle.jc_types.specs.Accessors.{fields_of, members_of, method_kind_of, methods_of, supers_of}
use Rattle.jc_declares.specs.declared.heads.Heads.{Heads}
use Rattle.jc_declares.specs.declared.unit.SourceUnit.{SourceUnit}
use Rattle.jc_declares.specs.Heads.{Named, types_of_unit}
use Rattle.jc_declares.specs.Making.{class_id}
use Rattle.jc_exprs_parts_spec.specs.Fields.{is_static_field}

-- ---- what a body consists of

-- the call of another constructor that it begins with, by the offset of its word: written, or implied where none is written (JLS 8.8.7); there is none in the class
-- Object, which has no superclass, and in what is no constructor
pub data Begins : Type 0 where
  WithThis : (at : ℕ) (actuals : List Expr) → Begins
  WithSuper : (at : ℕ) (actuals : List Expr) → Begins
  WithImplied : Begins
  WithNone : Begins

-- an initialiser of a field, or a block by the offset of its first token (JLS 8.3.2, 8.6, 8.7)
pub data Initialiser : Type 0 where
  OfField : FieldId → Init → Initialiser
  OfBlock : ℕ → List Stmt → Initialiser

pub record MethodBody : Type 0 where
  pub method : MethodId
  pub begins : Begins
  pub initialisers : List Initialiser
  pub rest : List Stmt

-- ---- initialisers of a class, static ones and others, in their order

pub record Stood : Type 0 where
  pub is_static : Bool
  pub it : Initialiser

abbrev pub of_field : Table → FieldId → Option Init → List Stood
of_field T f None = []
of_field T f (Some i) = record { is_static = is_static_field T f; it = OfField f i } ∷ []

-- of variables that are declared together, and the fields that are left behind them
abbrev pub of_vars : Table → List Var → List FieldId → List Stood
of_vars T [] fs = []
of_vars T (v ∷ vs) [] = []
of_vars T (v ∷ vs) (f ∷ fs) = of_field T f v.init ++ of_vars T vs fs

abbrev pub behind_vars : List Var → List FieldId → List FieldId
behind_vars [] fs = fs
behind_vars (v ∷ vs) [] = []
behind_vars (v ∷ vs) (f ∷ fs) = behind_vars vs fs

abbrev pub MemberLayer : Type 0
MemberLayer = Member-F Member Stmt Clause Declaration

abbrev pub of_member : Table → MemberLayer → List FieldId → List Stood
of_member T (Member-F.Fields ls) fs = of_vars T (ls.first ∷ ls.more) fs
of_member T (Member-F.Initialiser at is_static items) fs = record { is_static = is_static; it = OfBlock at items } ∷ []
of_member T _ fs = []

abbrev pub behind_member : MemberLayer → List FieldId → List FieldId
behind_member (Member-F.Fields ls) fs = behind_vars (ls.first ∷ ls.more) fs
behind_member _ fs = fs

abbrev pub initialisers_in : Table → List Member → List FieldId → List Stood
initialisers_in T [] fs = []
initialisers_in T (m ∷ ms) fs = of_member T (out-Member m) fs ++ initialisers_in T ms (behind_member (out-Member m) fs)

abbrev pub same_truth : Bool → Bool → Bool
same_truth true b = b
same_truth false b = not b

abbrev pub those : Bool → List Stood → List Initialiser
those is_static [] = []
those is_static (s ∷ ss) = if same_truth is_static s.is_static then s.it ∷ those is_static ss else those is_static ss

abbrev pub initialisers : Table → ClassId → List Member → Bool → List Initialiser
initialisers T k ms is_static = those is_static (initialisers_in T ms (fields_of T k))

-- ---- written methods and constructors, in their order: the block, if there is one

abbrev pub block_of : MemberLayer → List (Option (List Stmt))
block_of (Member-F.Bare head) = None ∷ []
block_of (Member-F.Method head items) = Some items ∷ []
block_of _ = []

abbrev pub blocks : List Member → List (Option (List Stmt))
blocks [] = []
blocks (m ∷ ms) = block_of (out-Member m) ++ blocks ms

-- how a constructor's block begins, and what is left of it
abbrev pub StmtLayer : Type 0
StmtLayer = Stmt-F Member Stmt Clause Declaration

abbrev pub begins_at : StmtLayer → Option Begins
begins_at (Stmt-F.ThisCall at actuals) = Some (WithThis at actuals)
begins_at (Stmt-F.SuperCall at actuals) = Some (WithSuper at actuals)
begins_at _ = None

abbrev pub begins_of : List Stmt → Option Begins
begins_of [] = None
begins_of (s ∷ ss) = begins_at (out-Stmt s)

abbrev pub implied_if : Bool → Begins
implied_if true = WithImplied
implied_if false = WithNone

abbrev pub has_super : Table → ClassId → Bool
has_super T k = some_type (supers_of T k)
  where
    some_type : {A : Type 0} → List A → Bool
    some_type [] = false
    some_type (t ∷ ts) = true

abbrev pub or_implied : Table → ClassId → Option Begins → Begins
or_implied T k (Some b) = b
or_implied T k None = implied_if (has_super T k)

abbrev pub rest_of : Option Begins → List Stmt → List Stmt
rest_of (Some b) (s ∷ ss) = ss
rest_of _ ss = ss

abbrev pub calls_this : Option Begins → Bool
calls_this (Some (WithThis at actuals)) = true
calls_this _ = false

abbrev pub constructor_kind : Option MethodKind → Bool
constructor_kind (Some kind.Constructor) = true
constructor_kind _ = false

abbrev pub is_constructor : Table → MethodId → Bool
is_constructor T m = constructor_kind (method_kind_of T m)

-- the methods of a class that are written, in their order: those that no source writes are left out
abbrev pub is_written_kind : Option MethodKind → Bool
is_written_kind (Some kind.Method) = true
is_written_kind (Some kind.Constructor) = true
is_written_kind _ = false

abbrev pub written : Table → List MethodId → List MethodId
written T [] = []
written T (m ∷ ms) = if is_written_kind (method_kind_of T m) then m ∷ written T ms else written T ms

-- every written constructor calls another one by `this`, which is a cycle (620)
abbrev pub all_call_this : Table → List MethodId → List (Option (List Stmt)) → Bool
all_call_this T [] bs = true
all_call_this T (m ∷ ms) [] = true
all_call_this T (m ∷ ms) (None ∷ bs) = all_call_this T ms bs
all_call_this T (m ∷ ms) (Some ss ∷ bs) = (not (is_constructor T m) || calls_this (begins_of ss)) && all_call_this T ms bs

-- The initialisers that are not static stand in each constructor that calls no other one by `this`; where all do, in the first one
abbrev pub initialised_by : List Initialiser → Bool → List Initialiser
initialised_by is true = is
initialised_by is false = []

abbrev pub constructor_body : Table → ClassId → List Initialiser → MethodId → Bool → List Stmt → MethodBody
constructor_body T k is m is_first ss =
    record {
      method = m;
      begins = or_implied T k (begins_of ss);
      initialisers = initialised_by is (not (calls_this (begins_of ss)) || is_first);
      rest = rest_of (begins_of ss) ss;
    }

abbrev pub plain_body : MethodId → List Stmt → MethodBody
plain_body m ss = record { method = m; begins = WithNone; initialisers = []; rest = ss }

abbrev pub written_body : Table → ClassId → List Initialiser → MethodId → Bool → List Stmt → MethodBody
written_body T k is m is_first ss = if is_constructor T m then constructor_body T k is m is_first ss else plain_body m ss

-- `first` tells that no constructor came before, and that all call another one by `this`
abbrev pub written_bodies : Table → ClassId → List Initialiser → Bool → List MethodId → List (Option (List Stmt)) → List MethodBody
written_bodies T k is first [] bs = []
written_bodies T k is first (m ∷ ms) [] = []
written_bodies T k is first (m ∷ ms) (None ∷ bs) = written_bodies T k is first ms bs
written_bodies T k is first (m ∷ ms) (Some ss ∷ bs) =
    written_body T k is m first ss ∷ written_bodies T k is (first && not (is_constructor T m)) ms bs

-- ---- what no source writes: the static initialiser runs the static initialisers, an implied constructor calls `super()` and runs the others

abbrev pub implied_body : Table → ClassId → List Member → MethodId → Option MethodKind → List MethodBody
implied_body T k ms m (Some kind.StaticInitialiser) = record { method = m; begins = WithNone; initialisers = initialisers T k ms true; rest = [] } ∷ []
implied_body T k ms m (Some kind.ImpliedConstructor) =
    record { method = m; begins = implied_if (has_super T k); initialisers = initialisers T k ms false; rest = [] } ∷ []
implied_body T k ms m _ = []

abbrev pub implied_bodies : Table → ClassId → List Member → List MethodId → List MethodBody
implied_bodies T k ms [] = []
implied_bodies T k ms (n ∷ ns) = implied_body T k ms n (method_kind_of T n) ++ implied_bodies T k ms ns

abbrev pub class_bodies : Table → ClassId → List Member → List MethodBody
class_bodies T k ms =
    implied_bodies T k ms (methods_of T k)
    ++ written_bodies T k (initialisers T k ms false) (all_call_this T (written T (methods_of T k)) (blocks ms)) (written T (methods_of T k)) (blocks ms)

-- ---- a class, and then its member types

abbrev pub Bodied : Type 0
Bodied = Table → ClassId → List MethodBody

-- a member, and the bodies of it if it is a type
pub record Inside : Type 0 where
  pub is_type : Bool
  pub bodies : Bodied

abbrev pub member_step : Member-F (Member × Inside) (Stmt × Unit {0}) (Clause × Unit {0}) (Declaration × Bodied) → Inside
member_step (Member-F.Nested d) = record { is_type = true; bodies = d.1 }
member_step _ = record { is_type = false; bodies = λ T k. [] }

abbrev pub nested : Table → List (Member × Inside) → List ClassId → List MethodBody
nested T [] ks = []
nested T (m ∷ ms) [] = []
nested T (m ∷ ms) (k ∷ ks) = if m.1.is_type then m.1.bodies T k ++ nested T ms ks else nested T ms (k ∷ ks)

abbrev pub declaration_step : Declaration-F (Member × Inside) (Stmt × Unit {0}) (Clause × Unit {0}) (Declaration × Bodied) → Bodied
declaration_step d = λ T k. class_bodies T k (map (λ (m : Member × Inside). m.0) d.members) ++ nested T d.members (members_of T k)

unfoldable pub bodies_of : Declaration → Bodied
bodies_of d = para-Declaration Inside (Unit {0}) (Unit {0}) Bodied member_step (λ s. tt) (λ c. tt) declaration_step d

-- ---- units

abbrev pub bodies_of_types : Table → List TopLevel → Named → List MethodBody
bodies_of_types T [] ks = []
bodies_of_types T (top_of.Semicolon at ∷ ds) ks = bodies_of_types T ds ks
bodies_of_types T (top_of.Declaration d ∷ ds) [] = []
bodies_of_types T (top_of.Declaration d ∷ ds) (k ∷ ks) = bodies_of d T (class_id k.1) ++ bodies_of_types T ds ks

-- the bodies of a unit, which is the one of this number
unfoldable pub bodies : Table → Heads → ℕ → SourceUnit → List MethodBody
bodies T H u unit = bodies_of_types T unit.unit.types (types_of_unit H u)
