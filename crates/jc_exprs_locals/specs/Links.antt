-- Locals, each with the place of the last one of its name before it, and a map from names to the places of their last ones.
use Rattle.std.specs.Prelude.{◌≡◌, ℕ, suc, List, [], ◌∷◌, ◌++◌, Option, Some, None, map, slice_get, option_map, if◌then◌else◌}
use Rattle.std.specs.Str.{bytes_eq}
use Rattle.jc_types.specs.declared.constant.Constant.{Constant}
use Rattle.jc_exprs_parts_spec.specs.Worlds.{LocalIn}
use Rattle.jc_exprs_locals.specs.declared.scoped.Entry.{Entry}
use Rattle.jc_exprs_locals.specs.declared.scoped.ScopedLocal.{ScopedLocal}
use Rattle.jc_exprs_locals.specs.Scoped.{local_of}

abbrev pub locals_in : List Entry → List ScopedLocal
locals_in es = map (λ e. e.local) es

-- the place of the last one of a name, among entries whose places count from i on
abbrev pub newest_in : List ℕ → ℕ → List Entry → Option ℕ → Option ℕ
newest_in n i [] found = found
newest_in n i (e ∷ es) found = newest_in n (suc i) es (if bytes_eq n e.local.name then Some i else found)

abbrev pub newest : List ℕ → List Entry → Option ℕ
newest n es = newest_in n 0 es None

-- each entry behind others has the place of the last one of its name before it
abbrev pub AreLinked : List Entry → List Entry → Type 0
AreLinked before [] = Unit {0}
AreLinked before (e ∷ es) = (e.before ≡ newest e.local.name before) × AreLinked (before ++ e ∷ []) es

abbrev pub or_none : Option (Option ℕ) → Option ℕ
or_none None = None
or_none (Some o) = o

-- a map has for each name the place of its last entry
pub record IsIndexed (es : List Entry) (found : List ℕ → Option (Option ℕ)) : Type 0 where
  pub links : AreLinked [] es
  pub newest : (n : List ℕ) → or_none (found n) ≡ newest n es

-- the local at a place, if there is one
abbrev pub local_in_entry : List Entry → Option ℕ → Option LocalIn
local_in_entry es None = None
local_in_entry es (Some i) = option_map (λ e. local_of e.local) (slice_get es i)

-- with this value of a local, if it is final
abbrev pub as_last : Option Constant → Entry → Entry
as_last c e = record e { local = record e.local { constant = if e.local.is_final then c else None } }

abbrev pub with_last : Option Constant → List Entry → List Entry
with_last c [] = []
with_last c (e ∷ []) = as_last c e ∷ []
with_last c (e ∷ g ∷ es) = e ∷ with_last c (g ∷ es)
