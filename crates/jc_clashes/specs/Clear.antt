-- Classes that have no method of these, nor any class above them.
use Rattle.std.specs.Prelude.{◌≡◌, ℕ, zero, suc, Bool, true, false, not, ◌&&◌, ◌||◌, List, [], ◌∷◌, length, Option, Some, None}
use Rattle.jc_types.specs.declared.form.Ty.{Ty}
use Rattle.jc_types.specs.declared.ids.ClassId.{ClassId}
use Rattle.jc_types.specs.declared.table.Table.{Table}
use Rattle.jc_types.specs.Accessors.{supers_of}
use Rattle.jc_judge.specs.Kinds.{class_of}
use Rattle.jc_overriding.specs.Overriding.{owner}
use Rattle.jc_clashes.specs.declared.shapes.Shape.{Shape}
use Rattle.jc_clashes.specs.Marks.{is_marked}

-- a class is marked; where there is no class it isn't
abbrev pub class_clear : List Bool → Option ClassId → Bool
class_clear marks None = false
class_clear marks (Some k) = is_marked marks k.0

-- each of these types is of a marked class
abbrev pub all_clear : List Bool → List Ty → Bool
all_clear marks [] = true
all_clear marks (t ∷ ts) = class_clear marks (class_of t) && all_clear marks ts

-- a class isn't marked, or its supertypes are of marked classes
unfoldable pub keeps_clear : Table → List Bool → ℕ → Bool
keeps_clear T marks x = not (is_marked marks x) || all_clear marks (supers_of T (record { 0 = x }))

-- .. for n classes from number i on
abbrev pub stays_from : Table → List Bool → ℕ → ℕ → Bool
stays_from T marks i zero = true
stays_from T marks i (suc n) = keeps_clear T marks i && stays_from T marks (suc i) n

-- the class of none of these methods is marked
abbrev pub none_clear : Table → List Bool → List Shape → Bool
none_clear T marks [] = true
none_clear T marks (s ∷ ss) = not (is_marked marks (owner T s.id).0) && none_clear T marks ss

-- .. of each of these groups
abbrev pub all_apart : Table → List Bool → List (List Shape) → Bool
all_apart T marks [] = true
all_apart T marks (g ∷ gs) = none_clear T marks g && all_apart T marks gs

-- no class of these methods is marked, and what is above a marked class is marked
pub record AreClear (T : Table) (marks : List Bool) (gs : List (List Shape)) : Type 0 where
  pub stay : stays_from T marks 0 (length marks) ≡ true
  pub apart : all_apart T marks gs ≡ true
