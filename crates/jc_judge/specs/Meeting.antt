-- The greatest lower bound of types (JLS 5.1.10), and when two classes meet in it.
use Rattle.std.specs.Prelude.{ℕ, ◌+◌, ◌||◌, ◌&&◌, not, nat_lt, Bool, true, false, Option, Some, None, is_none, List, [], ◌∷◌, ◌++◌, length, filter, if◌then◌else◌}
use Rattle.jc_types.specs.declared.form.Ty.{Ty, Ty-F, out-Ty}
use Rattle.jc_types.specs.declared.form.Ty.TheVariants.{Class, Meet}
use Rattle.jc_types.specs.declared.form.Arg.{Arg, Arg-F, out-Arg}
use Rattle.jc_types.specs.declared.ids.ClassId.{ClassId}
use Rattle.jc_types.specs.declared.table.Table.{Table}
use Rattle.jc_types.specs.Accessors.{is_interface}
use Rattle.jc_types.specs.Sameness.{same}
use Rattle.jc_judge.specs.Kinds.{Layer, ArgLayer, is_object, class_of}
use Rattle.jc_judge.specs.Views.{view}

-- several types as one: an intersection where there are two or more, and Object where there is none
abbrev pub as_one : List Ty → Ty
as_one [] = Class (record { 0 = 0 }) []
as_one (t ∷ []) = t
as_one (t ∷ u ∷ ts) = Meet (t ∷ u ∷ ts)

-- what is no intersection is its own one part; the type is given twice, as it is and opened by one level
abbrev pub parts_at : Ty → Layer → List Ty
parts_at t (Ty-F.Meet parts) = parts
parts_at t _ = t ∷ []

-- each intersection replaced by its parts
abbrev pub flattened : List Ty → List Ty
flattened [] = []
flattened (t ∷ ts) = parts_at t (out-Ty t) ++ flattened ts

-- the type is the same as one of these
abbrev pub is_listed : Ty → List Ty → Bool
is_listed t [] = false
is_listed t (u ∷ us) = same t u || is_listed t us

-- of equal types the first is kept
abbrev pub distinct : List Ty → List Ty → List Ty
distinct kept [] = kept
distinct kept (t ∷ ts) = distinct (if is_listed t kept then kept else kept ++ t ∷ []) ts

-- Object is dropped where another type stands beside it
abbrev pub without_object : List Ty → List Ty
without_object ts = if nat_lt 1 (length ts) then filter (λ t. not (is_object t)) ts else ts

-- the argument is no wildcard
abbrev pub is_exact_at : ArgLayer → Bool
is_exact_at (Arg-F.Exact t) = true
is_exact_at _ = false

-- none of the arguments is a wildcard
abbrev pub are_exact : List Arg → Bool
are_exact [] = true
are_exact (a ∷ args) = is_exact_at (out-Arg a) && are_exact args

-- a class or raw type without wildcards as its own arguments
abbrev pub is_plain_at : Layer → Bool
is_plain_at (Ty-F.Class id args) = are_exact args
is_plain_at (Ty-F.Raw id) = true
is_plain_at _ = false

-- there is a view, and it is the same as the type
abbrev pub is_that : Ty → Option Ty → Bool
is_that t None = false
is_that t (Some v) = same v t

-- the type is the view of the other one as class k; what is no class or raw type has no class, and is no view
abbrev pub is_view_of : Table → Ty → Ty → Option ClassId → Bool
is_view_of T t o None = false
is_view_of T t o (Some k) = is_that t (view T k o)

-- the first type is the view, as its class, of the other one, which is plain
abbrev pub covers : Table → Ty → Ty → Bool
covers T t o = not (same o t) && (is_plain_at (out-Ty o) && is_view_of T t o (class_of t))

-- one of these covers the type
abbrev pub is_covered : Table → Ty → List Ty → Bool
is_covered T t [] = false
is_covered T t (o ∷ os) = covers T t o || is_covered T t os

-- the types that none of `all` covers, in their order
abbrev pub uncovered : Table → List Ty → List Ty → List Ty
uncovered T all [] = []
uncovered T all (t ∷ ts) = if is_covered T t all then uncovered T all ts else t ∷ uncovered T all ts

-- what is left of the types: each that isn't the view of another one
unfoldable pub glb_parts : Table → List Ty → List Ty
glb_parts T ts = let kept = without_object (distinct [] (flattened ts)) in uncovered T kept kept

-- the greatest lower bound, as one type
abbrev pub glb : Table → List Ty → Ty
glb T ts = as_one (glb_parts T ts)

-- by the classes of two types: one that has none, or an interface, clashes with nothing
abbrev pub clash_of : Table → Ty → Ty → Option ClassId → Option ClassId → Bool
clash_of T t u None o = false
clash_of T t u (Some j) None = false
clash_of T t u (Some j) (Some k) =
    not (is_interface T j) && (not (is_interface T k) && (is_none (view T k t) && is_none (view T j u)))

-- two classes, neither a subclass of the other
unfoldable pub clash : Table → Ty → Ty → Bool
clash T t u = clash_of T t u (class_of t) (class_of u)

-- the type clashes with one of these
abbrev pub clashes : Table → Ty → List Ty → Bool
clashes T t [] = false
clashes T t (u ∷ us) = clash T t u || clashes T t us

-- two unrelated classes are among the types
abbrev pub classes_meet : Table → List Ty → Bool
classes_meet T [] = false
classes_meet T (t ∷ ts) = clashes T t ts || classes_meet T ts

-- the type clashes with one of the earlier ones
abbrev pub clashes_before : Table → List Ty → Ty → Bool
clashes_before T [] t = false
clashes_before T (e ∷ earlier) t = clash T e t || clashes_before T earlier t

-- one of the types clashes with an earlier one, or with one that stands before it here
abbrev pub brings_clash : Table → List Ty → List Ty → Bool
brings_clash T earlier [] = false
brings_clash T earlier (t ∷ ts) = clashes_before T earlier t || brings_clash T (earlier ++ t ∷ []) ts

-- the place of the first of these types with a class that is unrelated to an earlier one, where the places are counted from i, and
-- the parts of an intersection stand for it (JLS 5.1.10)
abbrev pub unrelated_from : Table → List Ty → ℕ → List Ty → Option ℕ
unrelated_from T earlier i [] = None
unrelated_from T earlier i (t ∷ ts) =
    let parts = parts_at t (out-Ty t) in if brings_clash T earlier parts then Some i else unrelated_from T (earlier ++ parts) (i + 1) ts

-- the place at which two unrelated classes meet in a greatest lower bound
unfoldable pub unrelated : Table → List Ty → Option ℕ
unrelated T ts = unrelated_from T [] 0 ts
