-- The methods of a table by their names.
use Rattle.std.specs.Prelude.{◌≡◌, ◌<◌, ℕ, zero, suc, ◌++◌, true, cond, List, [], ◌∷◌, length, Option, Some, None, slice_get, slice_set}
use Rattle.std.specs.Str.{bytes_eq}
use Rattle.jc_types.specs.declared.ids.MethodId.{MethodId}
use Rattle.jc_types.specs.declared.table.Table.{Table}
use Rattle.jc_types.specs.Names.{named}
use Rattle.jc_overriding.specs.Overriding.{has_name}
use Rattle.jc_members.specs.declared.named.MethodIndex.{MethodIndex}

-- a list of method i, where it has this name; else the empty list
abbrev pub if_named : Table → List ℕ → ℕ → List MethodId
if_named T name i = cond (has_name T name (record { 0 = i })) (record { 0 = i } ∷ []) []

-- of n methods from number i on those of this name
abbrev pub named_from : Table → List ℕ → ℕ → ℕ → List MethodId
named_from T name i zero = []
named_from T name i (suc n) = if_named T name i ++ named_from T name (suc i) n

-- the methods of a name, in the order of the table
abbrev pub all_named : Table → List ℕ → List MethodId
all_named T name = named_from T name 0 (length T.methods)

-- the methods of a group; none where it has no number, or there is no group of that number
abbrev pub group_in : Option (List MethodId) → List MethodId
group_in None = []
group_in (Some ids) = ids

abbrev pub group_at : List (List MethodId) → Option ℕ → List MethodId
group_at groups None = []
group_at groups (Some g) = group_in (slice_get groups g)

-- the methods that an index has for a name: those of the group whose number the name has
abbrev pub ids_in : List (List ℕ × ℕ) → List (List MethodId) → List ℕ → List MethodId
ids_in names groups name = group_at groups (named name names)

-- each name has all its methods, in the order of the table
pub record IsMethodIndex (T : Table) (index : MethodIndex) : Type 0 where
  pub ids : (name : List ℕ) → ids_in index.names index.groups name ≡ all_named T name

-- names have numbers below n, and no two of them the same
pub record IsNumbered (names : List (List ℕ × ℕ)) (n : ℕ) : Type 0 where
  pub below : (q : List ℕ) (g : ℕ) → named q names ≡ Some g → g < n
  pub apart : (q r : List ℕ) (g : ℕ) → named q names ≡ Some g → named r names ≡ Some g → bytes_eq q r ≡ true

-- with a method more in group g, which has these so far; unchanged where there is no such group
abbrev pub pushed_in : ℕ → MethodId → List (List MethodId) → Option (List MethodId) → List (List MethodId)
pushed_in g id groups None = groups
pushed_in g id groups (Some ids) = slice_set groups g (ids ++ id ∷ [])

-- with a method more in group g
abbrev pub pushed_at : ℕ → MethodId → List (List MethodId) → List (List MethodId)
pushed_at g id groups = pushed_in g id groups (slice_get groups g)
