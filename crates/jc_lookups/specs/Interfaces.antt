-- Superinterfaces by their names.
use Rattle.std.specs.Prelude.{ℕ, List, [], ◌∷◌, slice_get, option_and_then}
use Rattle.std.specs.declared.option.Option.{Option}
use Rattle.std.specs.declared.option.Option.TheVariants.{Some, None}
use Rattle.jc_class_out.specs.declared.model.ClassModel.{ClassModel}
use Rattle.jc_jvm.specs.Classes.{or_else}

-- the names of the direct superinterfaces of a class, in their order; a number that is no class has none
abbrev pub interface_names : List ClassModel → ℕ → List (List ℕ)
interface_names classes k = elim (slice_get classes k) [ Some c ↦ c.interfaces | None ↦ [] ]

-- the first name whose class gives something
abbrev pub among_names : {A : Type 0} → (ℕ → Option A) → (List ℕ → Option ℕ) → List (List ℕ) → Option A
among_names f named [] = None
among_names f named (x ∷ xs) = or_else (option_and_then f (named x)) (among_names f named xs)
