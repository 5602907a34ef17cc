-- A look-up in a list of names.
use Rattle.std.specs.Prelude.{ℕ, List, [], ◌∷◌, Option, Some, None, if◌then◌else◌}
use Rattle.std.specs.Str.{bytes_eq}

-- the first place of a name
abbrev pub named : List ℕ → List (List ℕ × ℕ) → Option ℕ
named n [] = None
named n (e ∷ es) = if bytes_eq n e.0 then Some e.1 else named n es
