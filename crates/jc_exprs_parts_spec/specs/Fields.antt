-- Fields by their names (JLS 8.2, 8.3, 9.2, 9.3), as types have them (JLS 4.8, 4.9), and who may name a member (JLS 6.6.1).
use Rattle.std.specs.Prelude.{ℕ, zero, suc, ◌+◌, ◌==◌, ◌||◌, ◌&&◌, not, Bool, true, false, List, [], ◌∷◌, ◌++◌, Option, Some, None, slice_get, is_none, if◌then◌else◌}
use Rattle.std.specs.Str.{bytes_eq}
use Rattle.jc_types.specs.declared.declarations.Access.{Access}
use Rattle.jc_types.specs.declared.declarations.Access.TheVariants as access
use Rattle.jc_types.specs.declared.declarations.FieldDecl.{FieldDecl}
use Rattle.jc_types.specs.declared.declarations.Modifiers.{Modifiers}
use Rattle.jc_types.specs.declared.erased.Erased.{Erased}
use Rattle.jc_types.specs.declared.form.Ty.{Ty, Ty-F, out-Ty}
use Rattle.jc_types.specs.declared.form.Ty.TheVariants.{NullTy}
use Rattle.jc_types.specs.declared.ids.ClassId.{ClassId}
use Rattle.jc_types.specs.declared.ids.FieldId.{FieldId}
use Rattle.jc_types.specs.declared.ids.MethodId.{MethodId}
use Rattle.jc_types.specs.declared.table.Table.{Table}
use Rattle.jc_types.specs.Accessors.{class_count, fields_of, field_modifiers_of, field_owner_of, field_type_of, method_owner_of, method_modifiers_of, package_of, supers_of}
use Rattle.jc_types.specs.Erasing.{erasure}
use Rattle.jc_types.specs.Reifying.{arguments}
use Rattle.jc_types.specs.Substitution.{subst}
use Rattle.jc_judge.specs.Kinds.{Layer, class_of}
use Rattle.jc_judge.specs.Views.{view}
use Rattle.jc_overriding.specs.Viewing.{Seeing, With, Raised, plain, seeing_of}
use Rattle.jc_overriding.specs.Overriding.{is_open_to}
use Rattle.jc_declares.specs.Heads.{top_of_class}
use Rattle.jc_declares.specs.Looking.{body_asker, is_accessible, is_open}
use Rattle.jc_exprs_parts_spec.specs.Worlds.{World}

-- ---- the fields of a name that a class has

abbrev pub field_name_in : Option FieldDecl → List ℕ
field_name_in (Some f) = f.name
field_name_in None = []

abbrev pub field_access_in : Option Modifiers → Access
field_access_in (Some m) = m.access
field_access_in None = access.Private

abbrev pub is_private : Access → Bool
is_private access.Private = true
is_private _ = false

-- of the fields that a class declares, those of this name
abbrev pub named_fields : Table → List ℕ → List FieldId → List FieldId
named_fields T n [] = []
named_fields T n (f ∷ fs) = if bytes_eq n (field_name_in (slice_get T.fields f.0)) then f ∷ named_fields T n fs else named_fields T n fs

abbrev pub or_object : Option ClassId → ClassId
or_object (Some k) = k
or_object None = record { 0 = 0 }

abbrev pub field_class : Table → FieldId → ClassId
field_class T f = or_object (field_owner_of T f)

-- private fields are not inherited, and those of a package only in it (JLS 8.2)
abbrev pub is_inherited : Table → ClassId → FieldId → Bool
is_inherited T k f = is_open_to (field_access_in (field_modifiers_of T f)) (bytes_eq (package_of T k) (package_of T (field_class T f)))

abbrev pub is_among : FieldId → List FieldId → Bool
is_among f [] = false
is_among f (g ∷ gs) = (f.0 == g.0) || is_among f gs

-- what class k inherits of these, each once
abbrev pub inherited : Table → ClassId → List FieldId → List FieldId → List FieldId
inherited T k found [] = found
inherited T k found (f ∷ fs) = inherited T k (if is_inherited T k f && not (is_among f found) then found ++ f ∷ [] else found) fs

-- a class's own field hides all others of its name (JLS 8.3)
abbrev pub own_or : List FieldId → List FieldId → List FieldId
own_or [] others = others
own_or (f ∷ fs) others = f ∷ fs

-- from these supertypes, where those of a class are known
abbrev pub of_supers : Table → (Option ClassId → List FieldId) → ClassId → List Ty → List FieldId → List FieldId
of_supers T fields k [] found = found
of_supers T fields k (t ∷ ts) found = of_supers T fields k ts (inherited T k found (fields (class_of t)))

abbrev pub fields_above : (ClassId → List FieldId) → Option ClassId → List FieldId
fields_above f None = []
fields_above f (Some k) = f k

-- in at most n steps upwards
unfoldable pub fields_within : Table → List ℕ → ℕ → ClassId → List FieldId
fields_within T n zero k = []
fields_within T n (suc d) k =
    own_or (named_fields T n (fields_of T k)) (of_supers T (fields_above (fields_within T n d)) k (supers_of T k) [])

-- the fields of this name that are members of a class: several where it inherits them from several types
unfoldable pub class_fields : Table → ClassId → List ℕ → List FieldId
class_fields T k n = fields_within T n (class_count T + 1) k

-- ---- as a settled type has them: an intersection has those of its parts (JLS 4.9)

abbrev pub fields_by_class : Table → List ℕ → Option ClassId → List FieldId
fields_by_class T n None = []
fields_by_class T n (Some k) = class_fields T k n

abbrev pub merged : List FieldId → List FieldId → List FieldId
merged found [] = found
merged found (f ∷ fs) = merged (if is_among f found then found else found ++ f ∷ []) fs

abbrev pub fields_of_parts : Table → List ℕ → List Ty → List FieldId → List FieldId
fields_of_parts T n [] found = found
fields_of_parts T n (t ∷ ts) found = fields_of_parts T n ts (merged found (fields_by_class T n (class_of t)))

abbrev pub fields_at : Table → List ℕ → Ty → Layer → List FieldId
fields_at T n t (Ty-F.Meet parts) = fields_of_parts T n parts []
fields_at T n t _ = fields_by_class T n (class_of t)

unfoldable pub fields_named : Table → Ty → List ℕ → List FieldId
fields_named T t n = fields_at T n t (out-Ty t)

-- of these the ones that aren't private
abbrev pub not_private : Table → List FieldId → List FieldId
not_private T [] = []
not_private T (f ∷ fs) = if is_private (field_access_in (field_modifiers_of T f)) then not_private T fs else f ∷ not_private T fs

-- .. as they are members of a type, by bounds alone where that is told
abbrev pub member_fields : Table → Ty → Bool → List ℕ → List FieldId
member_fields T t by_bounds n = if by_bounds then not_private T (fields_named T t n) else fields_named T t n

-- ---- a field's type

abbrev pub or_null : Option Ty → Ty
or_null (Some t) = t
or_null None = NullTy

-- as it is declared, and the erasure of that
abbrev pub declared_field : Table → FieldId → Ty
declared_field T f = or_null (field_type_of T f)

abbrev pub field_erasure : Table → FieldId → Erased
field_erasure T f = erasure T [] (declared_field T f)

abbrev pub static_in : Option Modifiers → Bool
static_in (Some m) = m.is_static
static_in None = false

abbrev pub is_static_field : Table → FieldId → Bool
is_static_field T f = static_in (field_modifiers_of T f)

-- by the arguments of the type's view as the field's class, or erased where that is raw (JLS 4.8)
abbrev pub seen : Table → Seeing → Ty → Ty
seen T (With vars by) t = subst vars by t
seen T Raised t = plain T t

abbrev pub type_by_view : Table → Ty → Option Ty → Ty
type_by_view T t None = t
type_by_view T t (Some v) = seen T (seeing_of T v) t

-- static ones are as they are declared
abbrev pub field_in : Table → Ty → FieldId → Ty
field_in T t f = if is_static_field T f then declared_field T f else type_by_view T (declared_field T f) (view T (field_class T f) t)

-- a type has a raw view as a class
abbrev pub is_raw_view : Table → Option Ty → Bool
is_raw_view T None = false
is_raw_view T (Some v) = is_none (arguments T v)

abbrev pub is_raw_as : Table → Ty → ClassId → Bool
is_raw_as T t k = is_raw_view T (view T k t)

-- ---- access (JLS 6.6.1)

-- a member of a class is open where the place is in the body of the same top level class, or in the same package
abbrev pub is_open_at : World → Access → ClassId → Bool
is_open_at W a k =
    is_open a (bytes_eq (package_of W.table W.class) (package_of W.table k)) (top_of_class W.heads W.class.0 == top_of_class W.heads k.0)

-- the class of a type may be named there; of an array, that of its elements
abbrev pub is_open_class : World → Option ClassId → Bool
is_open_class W None = true
is_open_class W (Some k) = is_accessible W.heads (body_asker W.heads W.class.0) k.0

abbrev pub is_open_layer : World → Ty → Layer → Bool
is_open_layer W t (Ty-F.Array u n) = is_open_class W (class_of u)
is_open_layer W t _ = is_open_class W (class_of t)

abbrev pub is_open_type : World → Ty → Bool
is_open_type W t = is_open_layer W t (out-Ty t)

-- a field, and a method or constructor, of this type may be named there
abbrev pub may_name_field : World → Ty → FieldId → Bool
may_name_field W t f = is_open_type W t && is_open_at W (field_access_in (field_modifiers_of W.table f)) (field_class W.table f)

abbrev pub may_name_method : World → Ty → MethodId → Bool
may_name_method W t m = is_open_type W t && is_open_at W (field_access_in (method_modifiers_of W.table m)) (or_object (method_owner_of W.table m))
