-- What a table says of its declarations. Definitions of the layers above speak through these, so they hold of two tables
-- that differ in places alone. What is said of an id that is no place in its list is empty.
use Rattle.std.specs.Prelude.{ℕ, Bool, true, false, List, [], Option, Some, None, slice_get, length}
use Rattle.jc_rules.specs.declared.rule.Place.{Place}
use Rattle.jc_types.specs.declared.ids.ClassId.{ClassId}
use Rattle.jc_types.specs.declared.ids.MethodId.{MethodId}
use Rattle.jc_types.specs.declared.ids.FieldId.{FieldId}
use Rattle.jc_types.specs.declared.ids.VarId.{VarId}
use Rattle.jc_types.specs.declared.form.Ty.{Ty}
use Rattle.jc_types.specs.declared.declarations.ClassDecl.{ClassDecl}
use Rattle.jc_types.specs.declared.declarations.MethodDecl.{MethodDecl}
use Rattle.jc_types.specs.declared.declarations.FieldDecl.{FieldDecl}
use Rattle.jc_types.specs.declared.declarations.VariableDecl.{VariableDecl}
use Rattle.jc_types.specs.declared.declarations.Kind.{Kind}
use Rattle.jc_types.specs.declared.declarations.Kind.TheVariants as kind
use Rattle.jc_types.specs.declared.declarations.MethodKind.{MethodKind}
use Rattle.jc_types.specs.declared.declarations.Modifiers.{Modifiers}
use Rattle.jc_types.specs.declared.declarations.Written.{Written}
use Rattle.jc_types.specs.declared.ids.CaptureId.{CaptureId}
use Rattle.jc_types.specs.declared.environment.Bounds.{Bounds}
use Rattle.jc_types.specs.declared.table.Table.{Table}
use Rattle.jc_types.specs.Names.{named}

-- the kind of an interface (JLS 9), and of no class
abbrev pub is_interface_kind : Kind → Bool
is_interface_kind kind.Interface = true
is_interface_kind _ = false

-- the type without the places at which it is written; None stays None
abbrev pub written_type : Option Written → Option Ty
written_type (Some w) = Some w.ty
written_type None = None

-- how many classes and type variables there are
abbrev pub class_count : Table → ℕ
class_count T = length T.classes

abbrev pub variable_count : Table → ℕ
variable_count T = length T.variables

-- each definition in `_in` asks a declaration that may be missing: of none it says the empty list, None or false
abbrev pub class_name_in : Option ClassDecl → List ℕ
class_name_in (Some c) = c.name
class_name_in None = []

-- its simple name, its binary name with dots and the name of its package
abbrev pub class_name_of : Table → ClassId → List ℕ
class_name_of T id = class_name_in (slice_get T.classes id.0)

-- the binary name as JLS 13.1 forms it, with dots between the names of packages
abbrev pub binary_in : Option ClassDecl → List ℕ
binary_in (Some c) = c.binary
binary_in None = []

abbrev pub binary_of : Table → ClassId → List ℕ
binary_of T id = binary_in (slice_get T.classes id.0)

-- the name of the package, empty for the unnamed one (JLS 7.4.2)
abbrev pub package_in : Option ClassDecl → List ℕ
package_in (Some c) = c.package
package_in None = []

abbrev pub package_of : Table → ClassId → List ℕ
package_of T id = package_in (slice_get T.classes id.0)

-- None for a class that is no member of another (JLS 8.5)
abbrev pub outer_in : Option ClassDecl → Option ClassId
outer_in (Some c) = c.outer
outer_in None = None

-- the class that it is a member of, and its member types
abbrev pub outer_of : Table → ClassId → Option ClassId
outer_of T id = outer_in (slice_get T.classes id.0)

-- the member types that it declares itself, in their order: inherited ones are not among them
abbrev pub members_in : Option ClassDecl → List ClassId
members_in (Some c) = c.members
members_in None = []

abbrev pub members_of : Table → ClassId → List ClassId
members_of T id = members_in (slice_get T.classes id.0)

-- those that are implied are among the modifiers (JLS 8.1.1, 9.1.1)
abbrev pub class_modifiers_in : Option ClassDecl → Option Modifiers
class_modifiers_in (Some c) = Some c.modifiers
class_modifiers_in None = None

-- its modifiers and its kind
abbrev pub class_modifiers_of : Table → ClassId → Option Modifiers
class_modifiers_of T id = class_modifiers_in (slice_get T.classes id.0)

abbrev pub kind_in : Option ClassDecl → Option Kind
kind_in (Some c) = Some c.kind
kind_in None = None

abbrev pub kind_of : Table → ClassId → Option Kind
kind_of T id = kind_in (slice_get T.classes id.0)

-- its kind is that of an interface; of an id that is no place in the list of classes this is false
abbrev pub interface_in : Option ClassDecl → Bool
interface_in (Some c) = is_interface_kind c.kind
interface_in None = false

abbrev pub is_interface : Table → ClassId → Bool
is_interface T id = interface_in (slice_get T.classes id.0)

-- the type variables in the order in which the class declares them, none for one that is not generic (JLS 8.1.2)
abbrev pub vars_in : Option ClassDecl → List VarId
vars_in (Some c) = c.vars
vars_in None = []

-- its type parameters
abbrev pub vars_of : Table → ClassId → List VarId
vars_of T id = vars_in (slice_get T.classes id.0)

-- the supertypes without the places at which they are written
abbrev pub supers_in : Option ClassDecl → List Ty
supers_in (Some c) = c.supers.types
supers_in None = []

-- its direct supertypes as they are declared: the superclass first, and then the superinterfaces
abbrev pub supers_of : Table → ClassId → List Ty
supers_of T id = supers_in (slice_get T.classes id.0)

-- constructors and static initialisers are among the methods, also those that no source writes
abbrev pub methods_in : Option ClassDecl → List MethodId
methods_in (Some c) = c.methods
methods_in None = []

-- the methods and the fields that it declares
abbrev pub methods_of : Table → ClassId → List MethodId
methods_of T id = methods_in (slice_get T.classes id.0)

-- the fields in the order in which they are declared
abbrev pub fields_in : Option ClassDecl → List FieldId
fields_in (Some c) = c.fields
fields_in None = []

abbrev pub fields_of : Table → ClassId → List FieldId
fields_of T id = fields_in (slice_get T.classes id.0)

-- the bounds without their places, in the order in which they are written, or Object where none is (JLS 4.4)
abbrev pub bounds_in : Option VariableDecl → List Ty
bounds_in (Some v) = v.bounds.types
bounds_in None = []

-- the declared bounds of a type variable
abbrev pub bounds_of : Table → VarId → List Ty
bounds_of T id = bounds_in (slice_get T.variables id.0)

-- what follows is said of constructors and static initialisers as well; None where the table has no such method
abbrev pub method_place_in : Option MethodDecl → Option Place
method_place_in (Some m) = Some m.place
method_place_in None = None

-- where a method is declared, and the class that declares it
abbrev pub method_place_of : Table → MethodId → Option Place
method_place_of T id = method_place_in (slice_get T.methods id.0)

abbrev pub method_owner_in : Option MethodDecl → Option ClassId
method_owner_in (Some m) = Some m.class
method_owner_in None = None

abbrev pub method_owner_of : Table → MethodId → Option ClassId
method_owner_of T id = method_owner_in (slice_get T.methods id.0)

-- empty where there is no such method
abbrev pub method_name_in : Option MethodDecl → List ℕ
method_name_in (Some m) = m.name
method_name_in None = []

-- its name, kind and modifiers
abbrev pub method_name_of : Table → MethodId → List ℕ
method_name_of T id = method_name_in (slice_get T.methods id.0)

abbrev pub method_kind_in : Option MethodDecl → Option MethodKind
method_kind_in (Some m) = Some m.kind
method_kind_in None = None

abbrev pub method_kind_of : Table → MethodId → Option MethodKind
method_kind_of T id = method_kind_in (slice_get T.methods id.0)

-- those that are implied are among the modifiers (JLS 8.4.3, 9.4)
abbrev pub method_modifiers_in : Option MethodDecl → Option Modifiers
method_modifiers_in (Some m) = Some m.modifiers
method_modifiers_in None = None

abbrev pub method_modifiers_of : Table → MethodId → Option Modifiers
method_modifiers_of T id = method_modifiers_in (slice_get T.methods id.0)

-- the type variables of a generic method or constructor, in the order of their declaration (JLS 8.4.4, 8.8.4)
abbrev pub method_vars_in : Option MethodDecl → List VarId
method_vars_in (Some m) = m.vars
method_vars_in None = []

-- its type parameters
abbrev pub method_vars_of : Table → MethodId → List VarId
method_vars_of T id = method_vars_in (slice_get T.methods id.0)

-- the types of the formal parameters in order, where one that is written with dots is an array (JLS 8.4.1)
abbrev pub params_in : Option MethodDecl → List Ty
params_in (Some m) = m.params.types
params_in None = []

abbrev pub params_of : Table → MethodId → List Ty
params_of T id = params_in (slice_get T.methods id.0)

-- None for `void`, for a constructor, for a static initialiser, and where there is no such method
abbrev pub result_in : Option MethodDecl → Option Ty
result_in (Some m) = written_type m.result
result_in None = None

-- its result, which only a method with a result has
abbrev pub result_of : Table → MethodId → Option Ty
result_of T id = result_in (slice_get T.methods id.0)

-- the types in the `throws` clause, without their places (JLS 8.4.6)
abbrev pub thrown_in : Option MethodDecl → List Ty
thrown_in (Some m) = m.thrown.types
thrown_in None = []

-- the types that it says it throws
abbrev pub thrown_of : Table → MethodId → List Ty
thrown_of T id = thrown_in (slice_get T.methods id.0)

-- a method of variable arity (JLS 8.4.1); one that the table doesn't have is none
abbrev pub variable_arity_in : Option MethodDecl → Bool
variable_arity_in (Some m) = m.is_variable_arity
variable_arity_in None = false

-- whether its last parameter takes any number of arguments, and whether it has a body
abbrev pub is_variable_arity : Table → MethodId → Bool
is_variable_arity T id = variable_arity_in (slice_get T.methods id.0)

-- a body is a block, and no semicolon (JLS 8.4.7); a method that the table doesn't have has none
abbrev pub body_in : Option MethodDecl → Bool
body_in (Some m) = m.has_body
body_in None = false

abbrev pub has_body : Table → MethodId → Bool
has_body T id = body_in (slice_get T.methods id.0)

-- the class that declares a field
abbrev pub field_owner_in : Option FieldDecl → Option ClassId
field_owner_in (Some f) = Some f.class
field_owner_in None = None

abbrev pub field_owner_of : Table → FieldId → Option ClassId
field_owner_of T id = field_owner_in (slice_get T.fields id.0)

-- the modifiers of a field, with those that are implied (JLS 8.3.1, 9.3)
abbrev pub field_modifiers_in : Option FieldDecl → Option Modifiers
field_modifiers_in (Some f) = Some f.modifiers
field_modifiers_in None = None

abbrev pub field_modifiers_of : Table → FieldId → Option Modifiers
field_modifiers_of T id = field_modifiers_in (slice_get T.fields id.0)

-- the type without the places at which it is written
abbrev pub field_type_in : Option FieldDecl → Option Ty
field_type_in (Some f) = Some f.ty.ty
field_type_in None = None

-- its type
abbrev pub field_type_of : Table → FieldId → Option Ty
field_type_of T id = field_type_in (slice_get T.fields id.0)

-- the class at a place in the list of classes, or Object, whose place is 0, for None
abbrev pub id_or_object : Option ℕ → ClassId
id_or_object (Some n) = record { 0 = n }
id_or_object None = record { 0 = 0 }

-- the first class of this binary name, and Object where there is none
abbrev pub class_named : Table → List ℕ → ClassId
class_named T name = id_or_object (named name T.index)

-- a variable that the env doesn't have has no upper bound
abbrev pub uppers_in : Option Bounds → List Ty
uppers_in (Some b) = b.uppers
uppers_in None = []

-- None where the variable stands for no `? super L`, and where the env doesn't have it (JLS 5.1.10)
abbrev pub lower_in : Option Bounds → Option Ty
lower_in (Some b) = b.lower
lower_in None = None

-- the upper bounds of a captured variable, and its lower bound
abbrev pub uppers_of : List Bounds → CaptureId → List Ty
uppers_of env c = uppers_in (slice_get env c.0)

abbrev pub lower_bound_of : List Bounds → CaptureId → Option Ty
lower_bound_of env c = lower_in (slice_get env c.0)
