-- Vertices that are marked where they lie on a cycle.
use Rattle.std.specs.Prelude.{◌≡◌, ◌<◌, ℕ, Bool, true, false, List, Option, Some, None, length, slice_get}
use Rattle.jc_components.specs.Reach.{Reach}

-- the mark of a vertex; one without a mark isn't marked
abbrev pub or_false : Option Bool → Bool
or_false None = false
or_false (Some b) = b

abbrev pub is_marked : List Bool → ℕ → Bool
is_marked marks c = or_false (slice_get marks c)

-- the first k vertices are marked exactly where they reach themselves
pub record AreReached (rows : List (List ℕ)) (marks : List Bool) (k : ℕ) : Type 0 where
  pub count : length marks ≡ k
  pub told : (c : ℕ) → c < k → (is_marked marks c ≡ true → Reach rows c c) × (Reach rows c c → is_marked marks c ≡ true)
