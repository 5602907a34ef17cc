-- Supertypes, and the supertype of a given class (JLS 4.8, 4.10.2).
use Rattle.std.specs.Prelude.{ℕ, zero, suc, ◌+◌, ◌==◌, Bool, false, Option, Some, None, List, [], ◌∷◌, ◌++◌, length, map, if◌then◌else◌}
use Rattle.jc_types.specs.declared.form.Ty.{Ty, Ty-F, out-Ty}
use Rattle.jc_types.specs.declared.form.Ty.TheVariants.{Class, Raw}
use Rattle.jc_types.specs.declared.form.Arg.{Arg, Arg-F, out-Arg}
use Rattle.jc_types.specs.declared.ids.ClassId.{ClassId}
use Rattle.jc_types.specs.declared.table.Table.{Table}
use Rattle.jc_types.specs.Substitution.{subst}
use Rattle.jc_types.specs.Reifying.{counted}
use Rattle.jc_types.specs.Accessors.{vars_of, supers_of, class_count}
use Rattle.jc_judge.specs.Kinds.{Layer, ArgLayer, class_of}

-- the type that an argument is, and none for a wildcard
abbrev pub exact_at : ArgLayer → List Ty
exact_at (Arg-F.Exact t) = t ∷ []
exact_at _ = []

-- the types of the arguments that are no wildcards
abbrev pub exacts : List Arg → List Ty
exacts [] = []
exacts (a ∷ args) = exact_at (out-Arg a) ++ exacts args

-- a class type with arguments becomes the raw type; every other type stays, an array as well
abbrev pub erased_at : Ty → Layer → Ty
erased_at t (Ty-F.Class id []) = t
erased_at t (Ty-F.Class id (a ∷ args)) = Raw id
erased_at t _ = t

-- a declared supertype as a supertype of a raw type (JLS 4.8)
unfoldable pub erased : Ty → Ty
erased t = erased_at t (out-Ty t)

-- of a class, by the arguments that it counts as having, if it isn't raw. Where one of them is a wildcard the class counts as
-- raw: its type is to be captured first
abbrev pub class_supers : Table → ClassId → Option (List Arg) → List Ty
class_supers T id None = map erased (supers_of T id)
class_supers T id (Some args) =
    if length (exacts args) == length (vars_of T id) then map (subst (vars_of T id) (exacts args)) (supers_of T id)
    else map erased (supers_of T id)

-- none for a primitive type, a variable and the null type
abbrev pub supers_at : Table → Layer → List Ty
supers_at T (Ty-F.Class id args) = class_supers T id (counted (vars_of T id) args)
supers_at T (Ty-F.Raw id) = class_supers T id (counted (vars_of T id) [])
supers_at T (Ty-F.Meet parts) = parts
supers_at T (Ty-F.Array t n) = Class (record { 0 = 0 }) [] ∷ []
supers_at T _ = []

-- the direct supertypes of a captured class or raw type (JLS 4.10.2), the parts of an intersection, and Object above an array
-- (JLS 4.10.3)
unfoldable pub supers : Table → Ty → List Ty
supers T t = supers_at T (out-Ty t)

-- the first of two types, or the second where the first is missing
abbrev pub or_else : Option Ty → Option Ty → Option Ty
or_else (Some t) o = Some t
or_else None o = o

-- what f finds of the first type of which it finds anything
abbrev pub first_of : (Ty → Option Ty) → List Ty → Option Ty
first_of f [] = None
first_of f (t ∷ ts) = or_else (f t) (first_of f ts)

-- there is a class, and it is k
abbrev pub is_class : ClassId → Option ClassId → Bool
is_class k None = false
is_class k (Some id) = id.0 == k.0

-- the first supertype of class k, the type itself included, in at most n steps
abbrev pub view_within : Table → ℕ → ClassId → Ty → Option Ty
view_within T zero k t = None
view_within T (suc n) k t = if is_class k (class_of t) then Some t else first_of (view_within T n k) (supers T t)

-- the view of a type as class k: its supertype of that class. An intersection's is that of its first part that has one. Where no
-- class is above itself these are steps enough
unfoldable pub view : Table → ClassId → Ty → Option Ty
view T k t = view_within T (class_count T + 1) k t
