-- Selection by numbers, along superclasses.
use Rattle.std.specs.Prelude.{◌≡◌, ◌≤◌, ℕ, zero, suc, ◌==◌, Bool, false, List, [], length, position, slice_get}
use Rattle.std.specs.Option.{option_map}
use Rattle.std.specs.declared.option.Option.{Option}
use Rattle.std.specs.declared.option.Option.TheVariants.{Some, None}
use Rattle.jc_selecting.specs.Held.{content, held}
use Rattle.jc_selecting.specs.declared.map.SharedMap.{SharedMap}
use Rattle.jc_selecting.specs.declared.tables.Table.{Table}

-- the first if it is there, and the second otherwise
abbrev pub or_else : {A : Type 0} → Option A → Option A → Option A
or_else (Some x) y = Some x
or_else None y = y

-- the superclass of a class
abbrev pub parent_of : List (Option ℕ) → ℕ → Option ℕ
parent_of parents k = elim (slice_get parents k) [ Some parent ↦ parent | None ↦ None ]

-- of each method of a class its number, where it may be selected
abbrev pub own_of : List (List (Option ℕ)) → ℕ → List (Option ℕ)
own_of own k = elim (slice_get own k) [ Some row ↦ row | None ↦ [] ]

-- a method that may not be selected has no number, and is never the one
abbrev pub is_number : ℕ → Option ℕ → Bool
is_number s (Some n) = n == s
is_number s None = false

-- the first method of this number among those of a class
abbrev pub own_found : ℕ → List (Option ℕ) → ℕ → Option (ℕ × ℕ)
own_found k row s = option_map (λ (i : ℕ). (k, i)) (position (is_number s) row)

-- the same in a class or else in its superclasses; at most so many
unfoldable pub found_on : List (Option ℕ) → List (List (Option ℕ)) → ℕ → ℕ → Option ℕ → Option (ℕ × ℕ)
found_on parents own s n None = None
found_on parents own s zero (Some k) = None
found_on parents own s (suc n) (Some k) = or_else (own_found k (own_of own k) s) (found_on parents own s n (parent_of parents k))

-- a map that has what is found from here on, over so many classes or more
pub record IsTable (parents : List (Option ℕ)) (own : List (List (Option ℕ))) (here : Option ℕ) (map : SharedMap) (depth : ℕ) : Type 0 where
  pub within : depth ≤ length parents
  pub finds : (m s : ℕ) → depth ≤ m → found_on parents own s m here ≡ held (content map.root) s

-- each class that has a map has such a one
abbrev pub AreTables : List (Option ℕ) → List (List (Option ℕ)) → List (Option Table) → Type 0
AreTables parents own tables = (k : ℕ) (table : Table) → slice_get tables k ≡ Some (Some table) → IsTable parents own (Some k) table.map table.depth
