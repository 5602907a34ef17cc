-- Inherited member types, and how they are noted.
use Rattle.std.specs.Prelude.{◌≡◌, ℕ, ◌&&◌, ◌||◌, Bool, false, List, [], ◌∷◌, Option, Some, None, slice_get}
use Rattle.std.specs.Str.{bytes_eq}
use Rattle.jc_types.specs.Names.{named}
use Rattle.jc_name_index.specs.Spaces.{with_first}
use Rattle.jc_declares.specs.Heads.{Named}
use Rattle.jc_declares.specs.Knowing.{is_some}
use Rattle.jc_declares.specs.Looking.{Knowledge}

-- a name stands there more than once
abbrev pub is_repeated : List ℕ → Named → Bool
is_repeated n [] = false
is_repeated n (e ∷ es) = (bytes_eq n e.0 && is_some (named n es)) || is_repeated n es

-- the first of each name is noted, and which names are repeated
pub record AreNoted (es firsts repeated : Named) : Type 0 where
  pub first : (n : List ℕ) → named n firsts ≡ named n es
  pub again : (n : List ℕ) → is_some (named n repeated) ≡ is_repeated n es

-- with a name, where it was there already
abbrev pub with_repeated : Option ℕ → List ℕ → ℕ → Named → Named
with_repeated None n c names = names
with_repeated (Some d) n c names = with_first n c names

-- what is known, or nothing
abbrev pub flat : Option (Option Named) → Option Named
flat (Some o) = o
flat None = None

-- what a list says of class c; None where it isn't settled, or where there is no such class
abbrev pub known_in : List (Option Named) → Knowledge
known_in ks c = flat (slice_get ks c)
