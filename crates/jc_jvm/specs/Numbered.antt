-- Texts with their numbers.
use Rattle.std.specs.Prelude.{ℕ, List, [], ◌∷◌, Option, Some, None, if◌then◌else◌}
use Rattle.std.specs.Str.{bytes_eq}

-- the first number of a text
abbrev pub numbered : List ℕ → List (List ℕ × ℕ) → Option ℕ
numbered text [] = None
numbered text (e ∷ es) = if bytes_eq e.0 text then Some e.1 else numbered text es
