-- A table whose index agrees with its classes, whose ids are places in its lists, and whose written types have their places.
use Rattle.std.specs.Prelude.{◌≡◌, ℕ, ◌+◌, ◌==◌, ◌&&◌, ◌||◌, nat_lt, Bool, true, false, IsTrue, Option, Some, None, List, [], ◌∷◌, length, if◌then◌else◌}
use Rattle.std.specs.List.{list_all}
use Rattle.std.specs.Str.{bytes_eq}
use Rattle.jc_types.specs.declared.form.Ty.{Ty, Ty-F, fold-Ty}
use Rattle.jc_types.specs.declared.form.Arg.{Arg-F}
use Rattle.jc_types.specs.declared.ids.ClassId.{ClassId}
use Rattle.jc_types.specs.declared.ids.MethodId.{MethodId}
use Rattle.jc_types.specs.declared.ids.FieldId.{FieldId}
use Rattle.jc_types.specs.declared.ids.VarId.{VarId}
use Rattle.jc_types.specs.declared.ids.ScopeId.{ScopeId}
use Rattle.jc_types.specs.declared.declarations.ClassDecl.{ClassDecl}
use Rattle.jc_types.specs.declared.declarations.MethodDecl.{MethodDecl}
use Rattle.jc_types.specs.declared.declarations.FieldDecl.{FieldDecl}
use Rattle.jc_types.specs.declared.declarations.FieldValue.{FieldValue}
use Rattle.jc_types.specs.declared.declarations.FieldValue.TheVariants.{Unknown, Initialiser, Known}
use Rattle.jc_types.specs.declared.declarations.VariableDecl.{VariableDecl}
use Rattle.jc_types.specs.declared.declarations.Owner.{Owner}
use Rattle.jc_types.specs.declared.declarations.Owner.TheVariants as owner
use Rattle.jc_types.specs.declared.declarations.TypePlaces.{TypePlaces}
use Rattle.jc_types.specs.declared.declarations.Written.{Written}
use Rattle.jc_types.specs.declared.declarations.WrittenTypes.{WrittenTypes}
use Rattle.jc_types.specs.declared.scopes.Demand.{Demand}
use Rattle.jc_types.specs.declared.scopes.Demand.TheVariants as demand
use Rattle.jc_types.specs.declared.scopes.Scope.{Scope}
use Rattle.jc_types.specs.declared.scopes.ScopeOf.{ScopeOf}
use Rattle.jc_types.specs.declared.scopes.ScopeOf.TheVariants as scope
use Rattle.jc_types.specs.declared.scopes.Use.{Use}
use Rattle.jc_types.specs.declared.table.Table.{Table}
use Rattle.jc_types.specs.Inside.{inside}
use Rattle.jc_types.specs.Names.{named}
use Rattle.jc_types.specs.Reifying.{all_true}

-- the place of the first class of a binary name, where these classes are counted from i
abbrev pub first_named : List ℕ → ℕ → List ClassDecl → Option ℕ
first_named name i [] = None
first_named name i (c ∷ cs) = if bytes_eq name c.binary then Some i else first_named name (i + 1) cs

-- what there is passes the test; None passes every test
abbrev pub if_any : {A : Type 0} → (A → Bool) → Option A → Bool
if_any f None = true
if_any f (Some a) = f a

-- the id is a place in the table's list of classes; the next four say it of methods, of fields, of type variables and of scopes
abbrev pub is_class : Table → ClassId → Bool
is_class T id = nat_lt id.0 (length T.classes)

abbrev pub is_method : Table → MethodId → Bool
is_method T id = nat_lt id.0 (length T.methods)

abbrev pub is_field : Table → FieldId → Bool
is_field T id = nat_lt id.0 (length T.fields)

abbrev pub is_variable : Table → VarId → Bool
is_variable T id = nat_lt id.0 (length T.variables)

abbrev pub is_scope : Table → ScopeId → Bool
is_scope T id = nat_lt id.0 (length T.scopes)

-- a layer of an argument, and of a type, where its parts are judged already: `?` has none
abbrev pub arg_is_inside_at : Arg-F Bool Bool → Bool
arg_is_inside_at (Arg-F.Exact b) = b
arg_is_inside_at Arg-F.Any = true
arg_is_inside_at (Arg-F.Extends b) = b
arg_is_inside_at (Arg-F.Super b) = b

-- its own class or variable is a place in the table, and all its parts are inside
abbrev pub is_inside_at : Table → Ty-F Bool Bool → Bool
is_inside_at T (Ty-F.Prim p) = true
is_inside_at T (Ty-F.Class id args) = is_class T id && all_true args
is_inside_at T (Ty-F.Raw id) = is_class T id
is_inside_at T (Ty-F.Array b n) = b
is_inside_at T (Ty-F.Variable v) = is_variable T v
is_inside_at T (Ty-F.Captured c) = false
is_inside_at T (Ty-F.Meet parts) = all_true parts
is_inside_at T Ty-F.NullTy = true

-- the classes and variables of a declared type are places in the table. It has no captured variable
unfoldable pub is_inside : Table → Ty → Bool
is_inside T t = fold-Ty Bool Bool arg_is_inside_at (is_inside_at T) t

-- each of these types is inside the table
abbrev pub are_inside : Table → List Ty → Bool
are_inside T ts = list_all (is_inside T) ts

-- the ids of a class declaration, and those in its supertypes, are places in the table
abbrev pub class_fits : Table → ClassDecl → Bool
class_fits T c =
    if_any (is_class T) c.outer && list_all (is_class T) c.members && is_scope T c.scope && list_all (is_variable T) c.vars && are_inside T c.supers.types
    && list_all (is_method T) c.methods && list_all (is_field T) c.fields

-- those of a method declaration are, with those in the types of its parameters, its result and its `throws` clause
abbrev pub method_fits : Table → MethodDecl → Bool
method_fits T m =
    is_class T m.class && is_scope T m.scope && list_all (is_variable T) m.vars && are_inside T m.params.types
    && if_any (λ (w : Written). is_inside T w.ty) m.result && are_inside T m.thrown.types

-- the scope of an initialiser is one of the table; a value that is unknown, or known as a constant, has no id
abbrev pub value_fits : Table → FieldValue → Bool
value_fits T Unknown = true
value_fits T (Initialiser s e) = is_scope T s
value_fits T (Known c) = true

-- those of a field declaration are, with those in its type and its value
abbrev pub field_fits : Table → FieldDecl → Bool
field_fits T f = is_class T f.class && is_inside T f.ty.ty && value_fits T f.value

-- the class or method that declares a type variable is one of the table
abbrev pub owner_fits : Table → Owner → Bool
owner_fits T (owner.Class id) = is_class T id
owner_fits T (owner.Method id) = is_method T id

-- those of a type variable are, with those in its bounds
abbrev pub variable_fits : Table → VariableDecl → Bool
variable_fits T v = owner_fits T v.owner && are_inside T v.bounds.types

-- an import on demand from a type names a class of the table; one from a package has no id (JLS 7.5.2)
abbrev pub demand_fits : Table → Demand → Bool
demand_fits T (demand.Package p name) = true
demand_fits T (demand.Type p id) = is_class T id

-- the place of each name is one in the list of classes; the next says it of the list of type variables
abbrev pub are_class_places : Table → List (List ℕ × ℕ) → Bool
are_class_places T names = list_all (λ (e : List ℕ × ℕ). nat_lt e.1 (length T.classes)) names

abbrev pub are_variable_places : Table → List (List ℕ × ℕ) → Bool
are_variable_places T names = list_all (λ (e : List ℕ × ℕ). nat_lt e.1 (length T.variables)) names

-- the ids in what a scope is the scope of, and in the names that it adds, are places in the table (JLS 6.3)
abbrev pub names_fit : Table → ScopeOf → Bool
names_fit T (scope.Unit own pack demands) = are_class_places T own && list_all (demand_fits T) demands
names_fit T (scope.Type id round params declared inherited) =
    is_class T id && list_all (is_class T) round && are_variable_places T params && are_class_places T declared && list_all (λ i. is_class T i.class) inherited
names_fit T (scope.Method id params) = is_method T id && are_variable_places T params

-- so are those of a scope; the scope round it, if there is one, is in the table
abbrev pub scope_fits : Table → Scope → Bool
scope_fits T s = if_any (is_scope T) s.outer && names_fit T s.of

-- those of a type that a body writes are, with the class and the scope that it stands in
abbrev pub use_fits : Table → Use → Bool
use_fits T u = is_class T u.class && is_scope T u.scope && is_inside T u.ty.ty

-- every id in the table's lists is a place in the list that it speaks of
abbrev pub ids_fit : Table → Bool
ids_fit T =
    list_all (class_fits T) T.classes && list_all (method_fits T) T.methods && list_all (field_fits T) T.fields && list_all (variable_fits T) T.variables
    && list_all (scope_fits T) T.scopes && list_all (use_fits T) T.uses

-- a type has a place for each class or raw type inside it, as a written one has, or none, as an implied one has
abbrev pub zips : Ty → TypePlaces → Bool
zips t p = (length p.classes == 0) || (length p.classes == length (inside t))

-- so of one type with its own places
abbrev pub written_zips : Written → Bool
written_zips w = zips w.ty w.places

-- there are as many types as there are places, and each type has those that stand at its number
abbrev pub all_zip : List Ty → List TypePlaces → Bool
all_zip [] [] = true
all_zip [] (p ∷ ps) = false
all_zip (t ∷ ts) [] = false
all_zip (t ∷ ts) (p ∷ ps) = zips t p && all_zip ts ps

-- so of several types with the places of each
abbrev pub types_zip : WrittenTypes → Bool
types_zip w = all_zip w.types w.places

-- and each parameter has a name
abbrev pub method_zips : MethodDecl → Bool
method_zips m = types_zip m.params && (length m.param_names == length m.params.types) && if_any written_zips m.result && types_zip m.thrown

-- of all written types of a table: supertypes, types of methods and fields, bounds of variables, and types in bodies
abbrev pub places_fit : Table → Bool
places_fit T =
    list_all (λ (c : ClassDecl). types_zip c.supers) T.classes && list_all method_zips T.methods && list_all (λ (f : FieldDecl). written_zips f.ty) T.fields
    && list_all (λ (v : VariableDecl). types_zip v.bounds) T.variables && list_all (λ (u : Use). written_zips u.ty) T.uses

-- the index has the first class of each binary name and no other name, every id is a place in its list, and every written type
-- has its places
pub record IsTable (T : Table) : Type 0 where
  pub index : (name : List ℕ) → named name T.index ≡ first_named name 0 T.classes
  pub ids : IsTrue (ids_fit T)
  pub places : IsTrue (places_fit T)
