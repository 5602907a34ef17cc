-- Paths from a class to those above it.
use Rattle.std.specs.Prelude.{◌≡◌, ◌⊎◌, ℕ, List, [], ◌∷◌, Some}
use Rattle.jc_types.specs.declared.form.Ty.{Ty}
use Rattle.jc_types.specs.declared.ids.ClassId.{ClassId}
use Rattle.jc_types.specs.declared.table.Table.{Table}
use Rattle.jc_types.specs.Accessors.{supers_of}
use Rattle.jc_judge.specs.Kinds.{class_of}

module _ (E : ℕ → ℕ → Type 0) where
  -- from a to b by way of these, of which the first is a
  abbrev pub Path : List ℕ → ℕ → ℕ → Type 0
  Path [] a b = a ≡ b
  Path (x ∷ xs) a b = (x ≡ a) × (c : ℕ) × E a c × Path xs c b

  -- no path leads back to where it begins
  abbrev pub IsAcyclic : Type 0
  IsAcyclic = (x : ℕ) (xs : List ℕ) (a : ℕ) → Path (x ∷ xs) a a → ⊥

-- the type is one of the list
abbrev pub IsIn : Ty → List Ty → Type 0
IsIn t [] = ⊥
IsIn t (u ∷ us) = (t ≡ u) ⊎ IsIn t us

-- the class at a place in the table's list, by its id
abbrev pub numbered : ℕ → ClassId
numbered n = record { 0 = n }

-- b is the class of a declared supertype of a
abbrev pub IsSuper : Table → ℕ → ℕ → Type 0
IsSuper T a b = (t : Ty) × IsIn t (supers_of T (numbered a)) × (class_of t ≡ Some (numbered b))

-- no class is among its own supertypes (JLS 8.1.4, 9.1.3)
abbrev pub HasNoCycle : Table → Type 0
HasNoCycle T = IsAcyclic (IsSuper T)

-- class b is a, or above it
abbrev pub IsAbove : Table → ℕ → ℕ → Type 0
IsAbove T a b = (xs : List ℕ) × Path (IsSuper T) xs a b
