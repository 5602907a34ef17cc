-- Marks: lists of tests' answers, each at the place of what was tested.
use Rattle.std.specs.Prelude.{ℕ, Bool, false, List, [], ◌∷◌, Option, Some, None, slice_get}

-- the mark at a place; none where the list has no such place
abbrev pub mark_in : Option Bool → Bool
mark_in None = false
mark_in (Some b) = b

-- there is a mark at this place
abbrev pub is_marked : List Bool → ℕ → Bool
is_marked marks at = mark_in (slice_get marks at)

-- the first mark and those behind it; an empty list has none
abbrev pub first_mark : List Bool → Bool
first_mark [] = false
first_mark (b ∷ bs) = b

abbrev pub behind_first : List Bool → List Bool
behind_first [] = []
behind_first (b ∷ bs) = bs
