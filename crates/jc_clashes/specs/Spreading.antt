-- Methods of one name, each with marks for those that it overrides or hides, take over the erasures of these, step by step.
use Rattle.std.specs.Prelude.{ℕ, zero, suc, ◌==◌, Bool, true, false, ◌&&◌, cond, List, [], ◌∷◌, map, length}
use Rattle.jc_types.specs.declared.form.Ty.{Ty}
use Rattle.jc_types.specs.declared.ids.MethodId.{MethodId}
use Rattle.jc_types.specs.declared.table.Table.{Table}
use Rattle.jc_header_rules.specs.Clashes.{erased_params}
use Rattle.jc_members.specs.Below.{replaces}
use Rattle.jc_clashes.specs.Erasures.{joined}

-- these erasures, and those of each method that is marked
abbrev pub gathered : List Bool → List (List (List Ty)) → List (List Ty) → List (List Ty)
gathered [] sets es = es
gathered (b ∷ bs) [] es = es
gathered (b ∷ bs) (set ∷ sets) es = gathered bs sets (cond b (joined es set) es)

-- the erasures of each method, and of those that it overrides or hides
abbrev pub widened : List (List Bool) → List (List (List Ty)) → List (List (List Ty)) → List (List (List Ty))
widened [] all sets = []
widened (below ∷ belows) all [] = []
widened (below ∷ belows) all (set ∷ sets) = gathered below all set ∷ widened belows all sets

-- .. n steps on
abbrev pub spread : List (List Bool) → ℕ → List (List (List Ty)) → List (List (List Ty))
spread belows zero sets = sets
spread belows (suc n) sets = spread belows n (widened belows sets sets)

-- each has as many erasures as its counterpart
abbrev pub are_as_many : List (List (List Ty)) → List (List (List Ty)) → Bool
are_as_many [] [] = true
are_as_many [] (t ∷ ts) = false
are_as_many (s ∷ ss) [] = false
are_as_many (s ∷ ss) (t ∷ ts) = (length s == length t) && are_as_many ss ts

-- a mark beside each of these methods that method m overrides or hides
abbrev pub below_in : Table → List MethodId → MethodId → List Bool
below_in T all m = map (replaces T m) all

-- .. for each of these methods
abbrev pub belows_of : Table → List MethodId → List MethodId → List (List Bool)
belows_of T all ms = map (below_in T all) ms

-- the erased parameters of m, and of those of these methods that it reaches in n steps, each once
abbrev pub erasures_within : Table → List MethodId → ℕ → MethodId → List (List Ty)
erasures_within T all zero m = erased_params T m ∷ []
erasures_within T all (suc n) m = gathered (below_in T all m) (map (erasures_within T all n) all) (erasures_within T all n m)
