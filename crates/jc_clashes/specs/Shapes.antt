-- The methods of a name, with what erasures tell of them.
use Rattle.std.specs.Prelude.{ℕ, zero, suc, ◌==◌, Bool, true, false, not, ◌&&◌, cond, List, [], ◌∷◌, ◌++◌, length, Option, Some, None}
use Rattle.jc_types.specs.declared.form.Ty.{Ty}
use Rattle.jc_types.specs.declared.ids.MethodId.{MethodId}
use Rattle.jc_types.specs.declared.table.Table.{Table}
use Rattle.jc_types.specs.Accessors.{method_name_of}
use Rattle.jc_members.specs.Below.{replaces}
use Rattle.jc_members.specs.Fixed.{is_fixed}
use Rattle.jc_members.specs.Named.{all_named}
use Rattle.jc_clashes.specs.declared.shapes.Shape.{Shape}
use Rattle.jc_clashes.specs.Marks.{is_marked}
use Rattle.jc_clashes.specs.Spreading.{below_in, erasures_within}

-- these methods have no type parameters, and each of their parameters' types is its own erasure (JLS 4.6)
abbrev pub all_fixed : Table → List MethodId → Bool
all_fixed T [] = true
all_fixed T (m ∷ ms) = is_fixed T m && all_fixed T ms

-- those of these methods that override or hide method m
abbrev pub above_in : Table → MethodId → List MethodId → List MethodId
above_in T m [] = []
above_in T m (j ∷ js) = cond (replaces T j m) (j ∷ []) [] ++ above_in T m js

-- the same by marks: those beside which there is a mark at this place
abbrev pub above_at : ℕ → List MethodId → List (List Bool) → List MethodId
above_at at [] belows = []
above_at at (j ∷ js) [] = []
above_at at (j ∷ js) (below ∷ belows) = cond (is_marked below at) (j ∷ []) [] ++ above_at at js belows

-- the marks of a method, and its erasures; none where nothing is at its place
abbrev pub row_in : Option (List Bool) → List Bool
row_in None = []
row_in (Some below) = below

abbrev pub set_in : Option (List (List Ty)) → List (List Ty)
set_in None = []
set_in (Some set) = set

-- a method with marks for those of `all` that it overrides or hides, those that do so to it, and all erasures that it reaches
abbrev pub shape_of : Table → List MethodId → MethodId → Shape
shape_of T all m = record { id = m; below = below_in T all m; above = above_in T m all; erasures = erasures_within T all (length T.methods) m }

abbrev pub shapes_of : Table → List MethodId → List MethodId → List Shape
shapes_of T all [] = []
shapes_of T all (m ∷ ms) = shape_of T all m ∷ shapes_of T all ms

-- the first of these methods, which aren't all fixed
abbrev pub leads : Table → MethodId → List MethodId → Bool
leads T m [] = false
leads T m (n ∷ ns) = (n.0 == m.0) && not (all_fixed T (n ∷ ns))

-- the methods of the name of m, where it is the first of them, and they aren't all fixed
abbrev pub group_of : Table → MethodId → List MethodId → List (List Shape)
group_of T m ids = cond (leads T m ids) (shapes_of T ids ids ∷ []) []

-- .. for each of n methods from number i on
abbrev pub groups_from : Table → ℕ → ℕ → List (List Shape)
groups_from T i zero = []
groups_from T i (suc n) = group_of T (record { 0 = i }) (all_named T (method_name_of T (record { 0 = i }))) ++ groups_from T (suc i) n

-- the methods of each name that has one that isn't fixed
abbrev pub groups : Table → List (List Shape)
groups T = groups_from T 0 (length T.methods)
