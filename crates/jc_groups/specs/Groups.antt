-- Numbers in numbered groups.
use Rattle.std.specs.Prelude.{ℕ, suc, ◌-◌, ◌==◌, List, [], ◌∷◌, ◌++◌, cond, length, replicate, Option, Some, None, slice_get, slice_set}

-- group g; empty where there is no such group
abbrev pub or_empty : Option (List ℕ) → List ℕ
or_empty None = []
or_empty (Some ns) = ns

abbrev pub group_in : List (List ℕ) → ℕ → List ℕ
group_in groups g = or_empty (slice_get groups g)

-- with empty groups behind them, so that group g is among them
abbrev pub padded : ℕ → List (List ℕ) → List (List ℕ)
padded g groups = groups ++ replicate (suc g - length groups) []

-- with n at the end of group g, where there is that group; otherwise as before
abbrev pub grouped_in : ℕ → ℕ → List (List ℕ) → Option (List ℕ) → List (List ℕ)
grouped_in g n groups None = groups
grouped_in g n groups (Some ns) = slice_set groups g (ns ++ n ∷ [])

-- with a number behind those of a group
abbrev pub grouped : ℕ → ℕ → List (List ℕ) → List (List ℕ)
grouped g n groups = grouped_in g n (padded g groups) (slice_get (padded g groups) g)

-- ---- all of a list, each in the group that it is in, if it is in one

-- each of a list, counted from i, behind those that its group has already; those of no group are left out
abbrev pub grouped_as : Option ℕ → ℕ → List (List ℕ) → List (List ℕ)
grouped_as None i groups = groups
grouped_as (Some g) i groups = grouped g i groups

abbrev pub grouped_all : {X : Type 0} → (X → Option ℕ) → ℕ → List X → List (List ℕ) → List (List ℕ)
grouped_all f i [] groups = groups
grouped_all f i (x ∷ xs) groups = grouped_all f (suc i) xs (grouped_as (f x) i groups)

-- number i, if it is in group g
abbrev pub picked_as : ℕ → Option ℕ → ℕ → List ℕ
picked_as g None i = []
picked_as g (Some h) i = cond (g == h) (i ∷ []) []

-- the numbers of those that are in a group
abbrev pub picked : {X : Type 0} → (X → Option ℕ) → ℕ → ℕ → List X → List ℕ
picked f g i [] = []
picked f g i (x ∷ xs) = picked_as g (f x) i ++ picked f g (suc i) xs
