-- Names in numbered spaces, each with its first place there.
use Rattle.std.specs.Prelude.{ℕ, suc, ◌-◌, ◌==◌, Bool, true, false, List, [], ◌∷◌, ◌++◌, cond, length, replicate, Option, Some, None, slice_get, slice_set}
use Rattle.jc_types.specs.Names.{named}

-- pairs of a name and a number; where a name stands twice, look-ups take the first
abbrev pub Named : Type 0
Named = List (List ℕ × ℕ)

-- the first place of a name; None where it isn't there, or where there is no such space
abbrev pub named_in : List ℕ → Option Named → Option ℕ
named_in n None = None
named_in n (Some names) = named n names

-- the first place of a name in a space
abbrev pub space_named : List Named → ℕ → List ℕ → Option ℕ
space_named spaces s n = named_in n (slice_get spaces s)

-- whether there is a space with a name
abbrev pub has_some : Option Named → Bool
has_some None = false
has_some (Some []) = false
has_some (Some (e ∷ names)) = true

-- with place p under a name at the end, where the name has no place yet
abbrev pub unless_named : Option ℕ → List ℕ → ℕ → Named → Named
unless_named (Some q) n p names = names
unless_named None n p names = names ++ (n, p) ∷ []

-- with a name, unless it is there
abbrev pub with_first : List ℕ → ℕ → Named → Named
with_first n p names = unless_named (named n names) n p names

-- with a name in space s, where there is that space; otherwise as before
abbrev pub noted_in : ℕ → List ℕ → ℕ → List Named → Option Named → List Named
noted_in s n p spaces None = spaces
noted_in s n p spaces (Some names) = slice_set spaces s (with_first n p names)

-- with spaces without a name behind them, so that space s is among them
abbrev pub padded : ℕ → List Named → List Named
padded s spaces = spaces ++ replicate (suc s - length spaces) []

-- with a name in a space, unless it is there
abbrev pub noted : ℕ → List ℕ → ℕ → List Named → List Named
noted s n p spaces = noted_in s n p (padded s spaces) (slice_get (padded s spaces) s)

-- ---- all of a list

-- in which space something is noted, and under which name, if it is
abbrev pub Noting : Type 0 → Type 0
Noting X = X → Option (ℕ × List ℕ)

-- number i, noted where and as it is to be
abbrev pub noted_as : Option (ℕ × List ℕ) → ℕ → List Named → List Named
noted_as None i spaces = spaces
noted_as (Some e) i spaces = noted e.0 e.1 i spaces

-- each of these, counted from i
abbrev pub noted_all : {X : Type 0} → Noting X → ℕ → List X → List Named → List Named
noted_all f i [] spaces = spaces
noted_all f i (x ∷ xs) spaces = noted_all f (suc i) xs (noted_as (f x) i spaces)

-- number i under its name, if it is noted in space s
abbrev pub picked_as : ℕ → Option (ℕ × List ℕ) → ℕ → Named
picked_as s None i = []
picked_as s (Some e) i = cond (s == e.0) ((e.1, i) ∷ []) []

-- those of them that are noted in a space
abbrev pub picked : {X : Type 0} → Noting X → ℕ → ℕ → List X → Named
picked f s i [] = []
picked f s i (x ∷ xs) = picked_as s (f x) i ++ picked f s (suc i) xs
