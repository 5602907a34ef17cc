-- The stage of types: written types, in headers and in bodies, and the bounds of type parameters (JLS 4.4, 4.5, 8.1.2, 8.1.4).
use Rattle.std.specs.Prelude.{ℕ, zero, suc, ◌==◌, Bool, true, false, not, ◌||◌, List, [], ◌∷◌, ◌++◌, Option, Some, None}
use Rattle.std.specs.List.{list_any}
use Rattle.jc_rules.specs.declared.rule.Place.{Place}
use Rattle.jc_rules.specs.declared.rule.Refusal.{Refusal}
use Rattle.jc_types.specs.declared.declarations.ClassDecl.{ClassDecl}
use Rattle.jc_types.specs.declared.declarations.FieldDecl.{FieldDecl}
use Rattle.jc_types.specs.declared.declarations.MethodDecl.{MethodDecl}
use Rattle.jc_types.specs.declared.declarations.TypePlaces.{TypePlaces}
use Rattle.jc_types.specs.declared.declarations.VariableDecl.{VariableDecl}
use Rattle.jc_types.specs.declared.declarations.Written.{Written}
use Rattle.jc_types.specs.declared.declarations.WrittenTypes.{WrittenTypes}
use Rattle.jc_types.specs.declared.form.Arg.{Arg, Arg-F, out-Arg}
use Rattle.jc_types.specs.declared.form.Ty.{Ty, Ty-F, out-Ty}
use Rattle.jc_types.specs.declared.ids.VarId.{VarId}
use Rattle.jc_types.specs.declared.scopes.Use.{Use}
use Rattle.jc_types.specs.declared.scopes.UseKind.{UseKind}
use Rattle.jc_types.specs.declared.scopes.UseKind.TheVariants as use_kind
use Rattle.jc_types.specs.declared.table.Table.{Table}
use Rattle.jc_types.specs.Accessors.{bounds_of, is_interface, variable_count}
use Rattle.jc_types.specs.Inside.{inside}
use Rattle.jc_judge.specs.declared.faults.TypeFault.{TypeFault}
use Rattle.jc_judge.specs.declared.faults.TypeFault.TheVariants as fault
use Rattle.jc_judge.specs.Forming.{class_faults}
use Rattle.jc_header_rules.specs.Places.{broken, broken_if, of_each, of_written}

-- ---- 401 to 406: the class types inside a written type, each with its own place

-- the number of the rule that a fault breaks; 406 where a question was too deep to be answered
abbrev pub rule_of_fault : TypeFault → ℕ
rule_of_fault fault.Count = 401
rule_of_fault (fault.Bound i) = 402
rule_of_fault (fault.SuperBound i) = 403
rule_of_fault (fault.PrimitiveArgument i) = 404
rule_of_fault (fault.ClassesMeet i) = 405
rule_of_fault fault.Deep = 406

-- each of these faults, all at one place
abbrev pub faults_broken : Place → List TypeFault → List Refusal
faults_broken place [] = []
faults_broken place (f ∷ fs) = broken (rule_of_fault f) place ++ faults_broken place fs

-- the faults of each of these class types, each at its own place
abbrev pub class_types_broken : Table → List Ty → List Place → List Refusal
class_types_broken T [] places = []
class_types_broken T (t ∷ ts) [] = []
class_types_broken T (t ∷ ts) (p ∷ places) = faults_broken p (class_faults T [] t) ++ class_types_broken T ts places

-- the faults of the class types inside a written type
abbrev pub type_broken : Table → Ty → TypePlaces → List Refusal
type_broken T t places = class_types_broken T (inside t) places.classes

-- .. of several written types, or of one if there is one
abbrev pub types_broken : Table → WrittenTypes → List Refusal
types_broken T w = of_written (type_broken T) w.types w.places

abbrev pub written_broken : Table → Option Written → List Refusal
written_broken T None = []
written_broken T (Some w) = type_broken T w.ty w.places

-- ---- 407: a type parameter that depends on itself (JLS 8.1.2). It depends on a type parameter that is a bound of it, and on what that depends on

-- a type is variable w
abbrev pub is_variable_at : VarId → Ty-F Arg Ty → Bool
is_variable_at w (Ty-F.Variable v) = v.0 == w.0
is_variable_at w _ = false

-- a bound is a type variable of which `further` holds
abbrev pub bound_depends : (VarId → Bool) → Ty-F Arg Ty → Bool
bound_depends further (Ty-F.Variable v) = further v
bound_depends further _ = false

-- in at most n steps
unfoldable pub depends_within : Table → ℕ → VarId → VarId → Bool
depends_within T zero w v = false
depends_within T (suc n) w v =
    list_any (λ t. is_variable_at w (out-Ty t) || bound_depends (depends_within T n w) (out-Ty t)) (bounds_of T v)

-- no way needs more steps than there are type variables
abbrev pub depends_on_itself : Table → VarId → Bool
depends_on_itself T v = depends_within T (variable_count T) v v

-- ---- 408: a supertype has no wildcard as one of its own arguments (JLS 8.1.4, 9.1.3)

-- any argument but a type
abbrev pub is_wildcard_at : Arg-F Arg Ty → Bool
is_wildcard_at (Arg-F.Exact t) = false
is_wildcard_at _ = true

-- a class type with a wildcard among its arguments; wildcards deeper inside don't count
abbrev pub has_wildcard_at : Ty-F Arg Ty → Bool
has_wildcard_at (Ty-F.Class id args) = list_any (λ a. is_wildcard_at (out-Arg a)) args
has_wildcard_at _ = false

-- told at the place where the written type begins
abbrev pub supertype_broken : Ty → TypePlaces → List Refusal
supertype_broken t places = broken_if (has_wildcard_at (out-Ty t)) 408 places.first

-- ---- 409: behind the first bound stand interfaces alone, and behind a type variable nothing (JLS 4.4)

-- a bound is a type variable, or of an interface, raw or not
abbrev pub is_variable_type : Ty-F Arg Ty → Bool
is_variable_type (Ty-F.Variable v) = true
is_variable_type _ = false

abbrev pub is_interface_type : Table → Ty-F Arg Ty → Bool
is_interface_type T (Ty-F.Class id args) = is_interface T id
is_interface_type T (Ty-F.Raw id) = is_interface T id
is_interface_type T _ = false

-- a bound behind the first, which is a type variable or isn't
abbrev pub later_bound_broken : Table → Bool → Ty → TypePlaces → List Refusal
later_bound_broken T behind_variable t places = broken_if (behind_variable || not (is_interface_type T (out-Ty t))) 409 places.first

-- the bounds of one type parameter
abbrev pub bounds_broken : Table → List Ty → List TypePlaces → List Refusal
bounds_broken T [] places = []
bounds_broken T (t ∷ ts) [] = []
bounds_broken T (t ∷ ts) (p ∷ places) = of_written (later_bound_broken T (is_variable_type (out-Ty t))) ts places

-- ---- all of them

-- what the declared supertypes of class i break
abbrev pub class_broken : Table → ℕ → ClassDecl → List Refusal
class_broken T i c = types_broken T c.supers ++ of_written supertype_broken c.supers.types c.supers.places

-- what type variable i breaks by its bounds, and where it depends on itself
abbrev pub variable_broken : Table → ℕ → VariableDecl → List Refusal
variable_broken T i v =
    types_broken T v.bounds ++ broken_if (depends_on_itself T (record { 0 = i })) 407 v.place ++ bounds_broken T v.bounds.types v.bounds.places

-- what method i breaks by the types of its parameters, its result and its thrown types; and field i by its type
abbrev pub method_broken : Table → ℕ → MethodDecl → List Refusal
method_broken T i m = types_broken T m.params ++ written_broken T m.result ++ types_broken T m.thrown

abbrev pub field_broken : Table → ℕ → FieldDecl → List Refusal
field_broken T i f = type_broken T f.ty.ty f.ty.places

-- a diamond's arguments are inferred, and none is written
abbrev pub kind_broken : Table → UseKind → Written → List Refusal
kind_broken T use_kind.Type w = type_broken T w.ty w.places
kind_broken T use_kind.Diamond w = []

-- a type that is written in a body
abbrev pub use_broken : Table → ℕ → Use → List Refusal
use_broken T i u = kind_broken T u.kind u.ty

-- the broken rules of the stage of types
abbrev pub types_breaks : Table → List Refusal
types_breaks T =
    of_each (class_broken T) 0 T.classes ++ of_each (method_broken T) 0 T.methods ++ of_each (field_broken T) 0 T.fields
    ++ of_each (variable_broken T) 0 T.variables ++ of_each (use_broken T) 0 T.uses
