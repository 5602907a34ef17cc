-- The bodies of classes, each by its own parts, as the walk makes them.
use Rattle.std.specs.Prelude.{ℕ, ◌||◌, ◌&&◌, not, Bool, true, List, [], ◌∷◌, ◌++◌, Option, Some, None}
use Rattle.jc_tree.specs.declared.statement.Declaration.{Declaration}
use Rattle.jc_tree.specs.declared.statement.LocalVars.{LocalVars}
use Rattle.jc_tree.specs.declared.statement.Member.{Member, Member-F, out-Member}
use Rattle.jc_tree.specs.declared.statement.Stmt.{Stmt}
use Rattle.jc_tree.specs.declared.statement.TopLevel.{TopLevel}
use Rattle.jc_tree.specs.declared.statement.TopLevel.TheVariants as top_of
use Rattle.jc_tree.specs.declared.statement.Var.{Var}
use Rattle.jc_types.specs.declared.ids.ClassId.{ClassId}
use Rattle.jc_types.specs.declared.ids.FieldId.{FieldId}
use Rattle.jc_types.specs.declared.ids.MethodId.{MethodId}
use Rattle.jc_types.specs.declared.table.Table.{Table}
use Rattle.jc_types.specs.Accessors.{members_of}
use Rattle.jc_declares.specs.Making.{class_id}
use Rattle.jc_stmts_spec.specs.Bodies.{Initialiser, MemberLayer, MethodBody, Stood, begins_of, bodies_of, calls_this, class_bodies, is_constructor, of_field, written_body}

-- ---- initialisers

-- of one variable, and the fields that are left behind it
abbrev pub of_var : Table → Var → List FieldId → List Stood
of_var T v [] = []
of_var T v (f ∷ fs) = of_field T f v.init

abbrev pub behind_var : List FieldId → List FieldId
behind_var [] = []
behind_var (f ∷ fs) = fs

-- of variables that are declared together
abbrev pub vars_in : Table → List Var → List FieldId → List Stood
vars_in T [] fs = []
vars_in T (v ∷ vs) fs = of_var T v fs ++ vars_in T vs (behind_var fs)

abbrev pub behind_in : List Var → List FieldId → List FieldId
behind_in [] fs = fs
behind_in (v ∷ vs) fs = behind_in vs (behind_var fs)

abbrev pub declared_in : Table → LocalVars → List FieldId → List Stood
declared_in T ls fs = of_var T ls.first fs ++ vars_in T ls.more (behind_var fs)

abbrev pub behind_declared : LocalVars → List FieldId → List FieldId
behind_declared ls fs = behind_in ls.more (behind_var fs)

-- ---- written methods, each with its block

-- it calls another constructor by `this`, if it is a constructor with a block
abbrev pub calls_if_constructor : Table → MethodId → Option (List Stmt) → Bool
calls_if_constructor T m None = true
calls_if_constructor T m (Some ss) = not (is_constructor T m) || calls_this (begins_of ss)

abbrev pub body_if : Table → ClassId → List Initialiser → MethodId → Bool → Option (List Stmt) → List MethodBody
body_if T k is m is_first None = []
body_if T k is m is_first (Some ss) = written_body T k is m is_first ss ∷ []

-- whether the first constructor is still to come
abbrev pub first_behind : Table → MethodId → Bool → Option (List Stmt) → Bool
first_behind T m is_first None = is_first
first_behind T m is_first (Some ss) = is_first && not (is_constructor T m)

-- .. where its block is the first one, if there is one
abbrev pub next_calls : Table → MethodId → List (Option (List Stmt)) → Bool
next_calls T m [] = true
next_calls T m (b ∷ bs) = calls_if_constructor T m b

abbrev pub next_body : Table → ClassId → List Initialiser → MethodId → Bool → List (Option (List Stmt)) → List MethodBody
next_body T k is m is_first [] = []
next_body T k is m is_first (b ∷ bs) = body_if T k is m is_first b

abbrev pub first_after : Table → MethodId → Bool → List (Option (List Stmt)) → Bool
first_after T m is_first [] = is_first
first_after T m is_first (b ∷ bs) = first_behind T m is_first b

abbrev pub behind_blocks : List (Option (List Stmt)) → List (Option (List Stmt))
behind_blocks [] = []
behind_blocks (b ∷ bs) = bs

-- every one of these calls another constructor by `this`
abbrev pub all_call : Table → List MethodId → List (Option (List Stmt)) → Bool
all_call T [] bs = true
all_call T (m ∷ ms) bs = next_calls T m bs && all_call T ms (behind_blocks bs)

abbrev pub written_in : Table → ClassId → List Initialiser → Bool → List MethodId → List (Option (List Stmt)) → List MethodBody
written_in T k is is_first [] bs = []
written_in T k is is_first (m ∷ ms) bs = next_body T k is m is_first bs ++ written_in T k is (first_after T m is_first bs) ms (behind_blocks bs)

-- ---- member types

abbrev pub of_nested : Table → MemberLayer → List ClassId → List MethodBody
of_nested T (Member-F.Nested d) (k ∷ ks) = bodies_of d T k
of_nested T _ ks = []

abbrev pub behind_nested : MemberLayer → List ClassId → List ClassId
behind_nested (Member-F.Nested d) (k ∷ ks) = ks
behind_nested _ ks = ks

abbrev pub nested_in : Table → List Member → List ClassId → List MethodBody
nested_in T [] ks = []
nested_in T (m ∷ ms) ks = of_nested T (out-Member m) ks ++ nested_in T ms (behind_nested (out-Member m) ks)

abbrev pub parts_in : Table → ClassId → List Member → List MethodBody
parts_in T k ms = class_bodies T k ms ++ nested_in T ms (members_of T k)

-- ---- units: the types are told by their numbers

abbrev pub of_top : Table → TopLevel → List ℕ → List MethodBody
of_top T (top_of.Semicolon at) ks = []
of_top T (top_of.Declaration d) [] = []
of_top T (top_of.Declaration d) (k ∷ ks) = bodies_of d T (class_id k)

abbrev pub behind_top : TopLevel → List ℕ → List ℕ
behind_top (top_of.Semicolon at) ks = ks
behind_top (top_of.Declaration d) [] = []
behind_top (top_of.Declaration d) (k ∷ ks) = ks

abbrev pub of_tops : Table → List TopLevel → List ℕ → List MethodBody
of_tops T [] ks = []
of_tops T (d ∷ ds) ks = of_top T d ks ++ of_tops T ds (behind_top d ks)
