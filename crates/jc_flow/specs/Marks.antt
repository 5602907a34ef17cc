-- Numbers with marks: what is asked of each number is answered at once.
use Rattle.std.specs.Prelude.{◌≡◌, ℕ, Bool, true, List, [], ◌∷◌, Some, slice_get, slice_set}

-- each mark tells what a test tells of its place
abbrev pub AreMarks : List Bool → (ℕ → Bool) → Type 0
AreMarks marks test = (i : ℕ) → (b : Bool) → slice_get marks i ≡ Some b → b ≡ test i

-- with a mark at each of these places, as far as there are such
abbrev pub marked : List Bool → List ℕ → List Bool
marked marks [] = marks
marked marks (x ∷ xs) = marked (slice_set marks x true) xs
