-- The least upper bound of types (JLS 15.12.2.7), as this language has it: two levels deep.
use Rattle.std.specs.Prelude.{ℕ, zero, suc, ◌+◌, ◌-◌, ◌==◌, ◌||◌, ◌&&◌, not, min, Bool, true, false, Option, Some, None, is_some, List, [], ◌∷◌, ◌++◌, map, filter, if◌then◌else◌}
use Rattle.jc_types.specs.declared.declarations.ClassDecl.{ClassDecl}
use Rattle.jc_types.specs.declared.environment.Bounds.{Bounds}
use Rattle.jc_types.specs.declared.form.Arg.{Arg}
use Rattle.jc_types.specs.declared.form.Arg.TheVariants.{Any, Extends}
use Rattle.jc_types.specs.declared.form.Ty.{Ty, Ty-F, out-Ty}
use Rattle.jc_types.specs.declared.form.Ty.TheVariants.{Raw, NullTy}
use Rattle.jc_types.specs.declared.ids.ClassId.{ClassId}
use Rattle.jc_types.specs.declared.table.Table.{Table}
use Rattle.jc_types.specs.Accessors.{is_interface}
use Rattle.jc_types.specs.Arrays.{array_over, lowered}
use Rattle.jc_types.specs.Sameness.{same}
use Rattle.jc_judge.specs.Kinds.{Layer, is_primitive, is_null}
use Rattle.jc_judge.specs.Supers.{numbered}
use Rattle.jc_judge.specs.Views.{view}
use Rattle.jc_judge.specs.Meeting.{as_one}
use Rattle.jc_lub.specs.Uncaptured.{up_view}
use Rattle.jc_lub.specs.Columns.{joined_views}

-- each of these types is the same as t
abbrev pub all_same_types : Ty → List Ty → Bool
all_same_types t [] = true
all_same_types t (u ∷ us) = same u t && all_same_types t us

-- ---- the classes above all

-- the ids of these classes, counted from k
abbrev pub numbers_from : ℕ → List ClassDecl → List ClassId
numbers_from k [] = []
numbers_from k (c ∷ cs) = numbered k ∷ numbers_from (k + 1) cs

-- each of these types has a supertype of class k as it stands, or is of that class
abbrev pub is_above_all : Table → List Bounds → List Ty → ClassId → Bool
is_above_all T env [] k = true
is_above_all T env (t ∷ ts) k = is_some (up_view T env k t) && is_above_all T env ts k

-- the classes that all types have as the class of a supertype, in the order of the table
unfoldable pub common : Table → List Bounds → List Ty → List ClassId
common T env ts = filter (is_above_all T env ts) (numbers_from 0 T.classes)

-- class k is above class j, and another one
abbrev pub is_over : Table → ClassId → ClassId → Bool
is_over T k j = not (j.0 == k.0) && is_some (view T k (Raw j))

-- another one of these classes is below
abbrev pub has_below : Table → List ClassId → ClassId → Bool
has_below T [] k = false
has_below T (j ∷ js) k = is_over T k j || has_below T js k

-- a class, or an interface, below which there is no other one of `all`
abbrev pub least_class : Table → List ClassId → ClassId → Bool
least_class T all k = not (is_interface T k) && not (has_below T all k)

abbrev pub least_interface : Table → List ClassId → ClassId → Bool
least_interface T all k = is_interface T k && not (has_below T all k)

-- those without another one below them, the class first
unfoldable pub candidates : Table → List ClassId → List ClassId
candidates T all = filter (least_class T all) all ++ filter (least_interface T all) all

-- a list of the type, if there is one
abbrev pub if_there : Option Ty → List Ty
if_there None = []
if_there (Some t) = t ∷ []

-- the types' views as one class
abbrev pub views : Table → List Bounds → ClassId → List Ty → List Ty
views T env k [] = []
views T env k (t ∷ ts) = if_there (up_view T env k t) ++ views T env k ts

-- the one type for the types as one class
unfoldable pub joined_at : Table → List Bounds → (List Ty → Arg) → List Ty → ClassId → Ty
joined_at T env f ts k = joined_views T f k (views T env k ts)

-- the intersection of the least common supertypes
unfoldable pub by_supers : Table → List Bounds → (List Ty → Arg) → List Ty → Ty
by_supers T env f ts = as_one (map (joined_at T env f ts) (candidates T (common T env ts)))

-- ---- arrays and null

-- of the n + 1 dimensions of an array those whose elements are references: the last isn't over a primitive type
abbrev pub depth_over : Ty → ℕ → ℕ
depth_over t n = if is_primitive t then n else n + 1

abbrev pub depth_at : Layer → ℕ
depth_at (Ty-F.Array t n) = depth_over t n
depth_at _ = 0

-- how often a type is an array of references: those dimensions of an array that are such
unfoldable pub depth : Ty → ℕ
depth t = depth_at (out-Ty t)

-- the least depth of these types, and n where that is less
abbrev pub shared_with : ℕ → List Ty → ℕ
shared_with n [] = n
shared_with n (t ∷ ts) = shared_with (min n (depth t)) ts

-- the dimensions that are arrays of references in all of these types; 0 for no types
abbrev pub shared : List Ty → ℕ
shared [] = 0
shared (t ∷ ts) = shared_with (depth t) ts

-- of n + 1 dimensions over u d are taken away; what isn't an array stays
abbrev pub stripped_at : ℕ → Ty → Layer → Ty
stripped_at d t (Ty-F.Array u n) = lowered u (n + 1 - d)
stripped_at d t _ = t

-- the elements of the elements .. of an array, d dimensions down
unfoldable pub stripped : ℕ → Ty → Ty
stripped d t = stripped_at d t (out-Ty t)

-- an array of d dimensions of t; t itself where d is 0
abbrev pub over : ℕ → Ty → Ty
over zero t = t
over (suc d) t = array_over d t

-- arrays of references give the array of the lub of their elements
abbrev pub across : (List Ty → Ty) → ℕ → List Ty → Ty
across f d ts = over d (f (map (stripped d) ts))

-- equal types give that type, and no types the null type
abbrev pub unless_same : (List Ty → Ty) → List Ty → Ty
unless_same f [] = NullTy
unless_same f (t ∷ ts) = if all_same_types t ts then t else f (t ∷ ts)

-- each type but the null type
abbrev pub not_null : Ty → Bool
not_null t = not (is_null t)

-- for types that aren't all the same: as many dimensions as they share, over the intersection of what is left
abbrev pub arrays_and_supers : Table → List Bounds → (List Ty → Arg) → List Ty → Ty
arrays_and_supers T env f ts = across (by_supers T env f) (shared ts) ts

-- the lub, where f joins unequal arguments; the null type is dropped first
unfoldable pub through : Table → List Bounds → (List Ty → Arg) → List Ty → Ty
through T env f ts = unless_same (arrays_and_supers T env f) (filter not_null ts)

-- the argument for unequal types, at most d levels deep
abbrev pub join : Table → List Bounds → ℕ → List Ty → Arg
join T env zero ts = Any
join T env (suc d) ts = Extends (through T env (join T env d) ts)

-- unequal arguments are joined once: in what `? extends` has then, unequal ones are `?` (JLS 15.12.2.7)
abbrev pub lub : Table → List Bounds → List Ty → Ty
lub T env ts = through T env (join T env 1) ts
