-- Casting conversion (JLS 5.5), and which casts of references are legal (JLS 5.5.1).
use Rattle.std.specs.Prelude.{ℕ, zero, suc, ◌+◌, ◌-◌, ◌*◌, ◌==◌, ◌||◌, ◌&&◌, not, nat_lt, Bool, true, false, Option, Some, None, is_some, List, [], ◌∷◌, length, if◌then◌else◌}
use Rattle.jc_types.specs.declared.conversion.Step.TheVariants.{Widen, Narrow, Unbox, Up, Check}
use Rattle.jc_types.specs.declared.declarations.Modifiers.{Modifiers}
use Rattle.jc_types.specs.declared.environment.Bounds.{Bounds}
use Rattle.jc_types.specs.declared.form.Primitive.{Primitive}
use Rattle.jc_types.specs.declared.form.Primitive.TheVariants.{Boolean}
use Rattle.jc_types.specs.declared.form.Ty.{Ty, Ty-F, out-Ty}
use Rattle.jc_types.specs.declared.form.Ty.TheVariants.{Array, Raw}
use Rattle.jc_types.specs.declared.ids.ClassId.{ClassId}
use Rattle.jc_types.specs.declared.declarations.ClassDecl.{ClassDecl}
use Rattle.jc_types.specs.declared.table.Table.{Table}
use Rattle.jc_types.specs.Accessors.{class_modifiers_of, is_interface, vars_of, bounds_of, uppers_of, variable_count}
use Rattle.jc_types.specs.Sameness.{same, prim_number}
use Rattle.jc_judge.specs.Deciding.{answer_of}
use Rattle.jc_judge.specs.Kinds.{Layer, is_primitive, is_object, class_of, primitive_below}
use Rattle.jc_judge.specs.Meeting.{as_one}
use Rattle.jc_judge.specs.Supers.{numbered}
use Rattle.jc_judge.specs.Views.{view}
use Rattle.jc_lub.specs.Distinct.{provably_distinct}
use Rattle.jc_lub.specs.Uncaptured.{up_view}
use Rattle.jc_convert.specs.declared.answer.Converts.{Converts}
use Rattle.jc_convert.specs.Rows.{Row, row, plain_row, checked, unchecked, first_row}
use Rattle.jc_convert.specs.Converting.{box, boxing_rows, unboxing, unboxed, converts_unchecked}

-- ---- legal casts of references

-- the modifiers of a class have `final`; a class that the table doesn't have isn't final
abbrev pub final_in : Option Modifiers → Bool
final_in None = false
final_in (Some m) = m.is_final

abbrev pub is_final : Table → ClassId → Bool
is_final T k = final_in (class_modifiers_of T k)

-- one class is below the other
abbrev pub are_related : Table → ClassId → ClassId → Bool
are_related T j k = is_some (view T k (Raw j)) || is_some (view T j (Raw k))

-- a value of one may be one of the other all the same: one is an interface, and the other isn't final
abbrev pub may_share : Table → ClassId → ClassId → Bool
may_share T j k = (is_interface T j && not (is_final T k)) || (is_interface T k && not (is_final T j))

-- both views are there, and provably distinct (JLS 4.5.1)
abbrev pub views_distinct : Table → List Bounds → Option Ty → Option Ty → Bool
views_distinct T env None w = false
views_distinct T env (Some v) None = false
views_distinct T env (Some v) (Some w) = provably_distinct T env v w

-- the views as a generic class are provably distinct
abbrev pub distinct_as : Table → List Bounds → Ty → Ty → ClassId → Bool
distinct_as T env s t k = nat_lt 0 (length (vars_of T k)) && views_distinct T env (up_view T env k s) (up_view T env k t)

-- as some class, where these classes are counted from n
abbrev pub distinct_from : Table → List Bounds → Ty → Ty → ℕ → List ClassDecl → Bool
distinct_from T env s t n [] = false
distinct_from T env s t n (c ∷ cs) = distinct_as T env s t (numbered n) || distinct_from T env s t (n + 1) cs

-- two class or raw types
abbrev pub classes_legal : Table → List Bounds → Ty → Ty → Option ClassId → Option ClassId → Bool
classes_legal T env s t None o = false
classes_legal T env s t (Some j) None = false
classes_legal T env s t (Some j) (Some k) = (are_related T j k || may_share T j k) && not (distinct_from T env s t 0 T.classes)

-- relations between types that are asked a step further down
abbrev pub Relation : Type 0
Relation = Ty → Ty → Bool

-- arrays: equal primitive elements, or elements that cast to each other; more dimensions than the other type are elements of it
abbrev pub elements_legal : Relation → Ty → Ty → Bool
elements_legal go u v = if is_primitive u || is_primitive v then same u v else go u v

-- array types of n + 1 and m + 1 dimensions
abbrev pub arrays_legal : Relation → Ty → ℕ → Ty → ℕ → Bool
arrays_legal go u n v m =
    if n == m then elements_legal go u v
    else (if nat_lt n m then elements_legal go u (Array v (m - n - 1)) else elements_legal go (Array u (n - m - 1)) v)

-- an array casts to arrays by their elements, and else to Object alone
abbrev pub array_legal : Relation → Ty → ℕ → Ty → Layer → Bool
array_legal go u n t (Ty-F.Array v m) = arrays_legal go u n v m
array_legal go u n t _ = is_object t

-- a class type casts to an array only from Object, and to a class type by their classes
abbrev pub class_legal : Table → List Bounds → Ty → Ty → Layer → Bool
class_legal T env s t (Ty-F.Array v m) = is_object s
class_legal T env s t _ = classes_legal T env s t (class_of s) (class_of t)

-- neither type is a variable or an intersection
abbrev pub settled_legal : Relation → Table → List Bounds → Ty → Ty → Layer → Layer → Bool
settled_legal go T env s t (Ty-F.Array u n) l = array_legal go u n t l
settled_legal go T env s t _ l = class_legal T env s t l

-- S casts to each of these types
abbrev pub all_legal : Relation → Ty → List Ty → Bool
all_legal go s [] = true
all_legal go s (t ∷ ts) = go s t && all_legal go s ts

-- each of these types casts to T
abbrev pub legal_from_all : Relation → List Ty → Ty → Bool
legal_from_all go [] t = true
legal_from_all go (s ∷ ss) t = go s t && legal_from_all go ss t

-- T is a variable, which stands for the intersection of its bounds, or an intersection, whose parts are all cast to
abbrev pub target_legal : Relation → Table → List Bounds → Ty → Ty → Layer → Layer → Bool
target_legal go T env s t l (Ty-F.Variable v) = go s (as_one (bounds_of T v))
target_legal go T env s t l (Ty-F.Captured c) = go s (as_one (uppers_of env c))
target_legal go T env s t l (Ty-F.Meet parts) = all_legal go s parts
target_legal go T env s t l m = settled_legal go T env s t l m

-- the same of S, which is asked first
abbrev pub source_legal : Relation → Table → List Bounds → Ty → Ty → Layer → Layer → Bool
source_legal go T env s t (Ty-F.Variable v) m = go (as_one (bounds_of T v)) t
source_legal go T env s t (Ty-F.Captured c) m = go (as_one (uppers_of env c)) t
source_legal go T env s t (Ty-F.Meet parts) m = legal_from_all go parts t
source_legal go T env s t l m = target_legal go T env s t l m

-- in at most n steps through variables, intersections and elements
abbrev pub legal_within : Table → List Bounds → ℕ → Ty → Ty → Bool
legal_within T env zero s t = false
legal_within T env (suc n) s t = source_legal (legal_within T env n) T env s t (out-Ty s) (out-Ty t)

-- steps enough where no variable depends on itself
abbrev pub legal_steps : Table → List Bounds → ℕ
legal_steps T env = 4 * (variable_count T + length env) + 8

-- a cast from a reference type to another is legal, as far as their classes tell
unfoldable pub is_legal : Table → List Bounds → Ty → Ty → Bool
is_legal T env s t = legal_within T env (legal_steps T env) s t

-- ---- the rows

-- each primitive type but boolean
abbrev pub is_numeric : Primitive → Bool
is_numeric Boolean = false
is_numeric _ = true

-- identity (5.1.1), widening (5.1.2), narrowing (5.1.3, 5.1.4)
abbrev pub primitive_casts : Primitive → Primitive → List Row
primitive_casts p q =
    plain_row (prim_number p == prim_number q) (checked [])
    ∷ plain_row (primitive_below p q) (checked (Widen q ∷ []))
    ∷ plain_row (is_numeric p && is_numeric q) (checked (Narrow q ∷ []))
    ∷ []

-- unchecked conversion (5.1.9), narrowing (5.1.6)
abbrev pub narrowing_casts : Table → List Bounds → Ty → Ty → List Row
narrowing_casts T env s t =
    plain_row (converts_unchecked T env s t) (unchecked (Up t ∷ []))
    ∷ plain_row (is_legal T env s t) (checked (Check t ∷ []))
    ∷ []

-- identity, widening (5.1.5), and these
abbrev pub reference_casts : Table → List Bounds → Ty → Ty → List Row
reference_casts T env s t =
    plain_row (same s t) (checked []) ∷ row (answer_of T 64 env s t) (checked (Up t ∷ [])) ∷ narrowing_casts T env s t

-- boxing (5.1.7), and widening or unchecked conversion behind it
abbrev pub boxing_casts : Table → List Bounds → Primitive → Ty → List Row
boxing_casts T env p t = boxing_rows T env None p t

-- a variable by the intersection of its bounds
abbrev pub bound_at : Table → List Bounds → (Ty → Ty) → Ty → Layer → Ty
bound_at T env go t (Ty-F.Variable v) = go (as_one (bounds_of T v))
bound_at T env go t (Ty-F.Captured c) = go (as_one (uppers_of env c))
bound_at T env go t _ = t

-- .. in at most n steps
abbrev pub bound_within : Table → List Bounds → ℕ → Ty → Ty
bound_within T env zero t = t
bound_within T env (suc n) t = bound_at T env (bound_within T env n) t (out-Ty t)

-- what a variable is bound by, where no variable depends on itself
unfoldable pub bound_of : Table → List Bounds → Ty → Ty
bound_of T env t = bound_within T env (variable_count T + length env + 1) t

-- narrowing to the class of a primitive type that is below S, and unboxing
abbrev pub unboxing_check : Table → List Bounds → Ty → Primitive → Row
unboxing_check T env s q = row (answer_of T 64 env (box T q) (bound_of T env s)) (checked (Check (box T q) ∷ Unbox ∷ []))

-- unboxing (5.1.8), and widening behind it; else narrowing to a box
abbrev pub unboxing_casts : Table → List Bounds → Ty → Option Primitive → Primitive → List Row
unboxing_casts T env s None q = unboxing_check T env s q ∷ []
unboxing_casts T env s (Some p) q =
    plain_row (primitive_below p q) (checked (unboxing T s p q)) ∷ unboxing_check T env s q ∷ []

-- the rows, by which of S and T are primitive
abbrev pub casts_from_primitive : Table → List Bounds → Primitive → Ty → Layer → List Row
casts_from_primitive T env p t (Ty-F.Prim q) = primitive_casts p q
casts_from_primitive T env p t _ = boxing_casts T env p t

abbrev pub casts_from_reference : Table → List Bounds → Ty → Ty → Layer → List Row
casts_from_reference T env s t (Ty-F.Prim q) = unboxing_casts T env s (unboxed T env s) q
casts_from_reference T env s t _ = reference_casts T env s t

abbrev pub casts_at : Table → List Bounds → Ty → Ty → Layer → Layer → List Row
casts_at T env s t (Ty-F.Prim p) l = casts_from_primitive T env p t l
casts_at T env s t _ l = casts_from_reference T env s t l

-- the rows for a cast of S to T
unfoldable pub cast_rows : Table → List Bounds → Ty → Ty → List Row
cast_rows T env s t = casts_at T env s t (out-Ty s) (out-Ty t)

-- casting conversion
abbrev pub cast : Table → List Bounds → Ty → Ty → Converts
cast T env s t = first_row (cast_rows T env s t)
