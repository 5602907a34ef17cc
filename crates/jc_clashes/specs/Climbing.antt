-- Lists of classes with all above them.
use Rattle.std.specs.Prelude.{◌≡◌, ◌⊎◌, ℕ, List, [], ◌∷◌, Option, Some, None}
use Rattle.jc_types.specs.declared.form.Ty.{Ty}
use Rattle.jc_types.specs.declared.ids.ClassId.{ClassId}
use Rattle.jc_types.specs.declared.table.Table.{Table}
use Rattle.jc_types.specs.Accessors.{supers_of}
use Rattle.jc_judge.specs.Kinds.{class_of}
use Rattle.jc_judge.specs.Supers.{numbered}

-- y is one of these numbers
abbrev pub IsNumberIn : ℕ → List ℕ → Type 0
IsNumberIn y [] = ⊥
IsNumberIn y (x ∷ xs) = (y ≡ x) ⊎ IsNumberIn y xs

-- a class is one of these by its number; where there is no class it isn't
abbrev pub ClassIn : List ℕ → Option ClassId → Type 0
ClassIn cs None = ⊥
ClassIn cs (Some k) = IsNumberIn k.0 cs

-- each of these types is of a class of the list
abbrev pub AllIn : List ℕ → List Ty → Type 0
AllIn cs [] = Unit {0}
AllIn cs (t ∷ ts) = ClassIn cs (class_of t) × AllIn cs ts

-- a list of classes with class `from`, and with the class of each declared supertype of each of them
pub record IsClosed (T : Table) (from : ℕ) (cs : List ℕ) : Type 0 where
  pub first : IsNumberIn from cs
  pub above : (x : ℕ) → IsNumberIn x cs → AllIn cs (supers_of T (numbered x))
