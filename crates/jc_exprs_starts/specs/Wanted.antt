-- The type to which a value is assigned, by its place in the arena of typed expressions, if it is assigned to one.
use Rattle.std.specs.Prelude.{◌≡◌, ℕ, ◌<◌, List, Option, Some, None, length}
use Rattle.jc_types.specs.declared.form.Ty.{Ty}
use Rattle.jc_typed.specs.declared.nodes.Node.{Node}
use Rattle.jc_typed.specs.Parts.{Grows, type_of}

abbrev pub wanted_in : List Node → Option ℕ → Option Ty
wanted_in ns None = None
wanted_in ns (Some at) = Some (type_of ns at)

abbrev pub WantedBelow : ℕ → Option ℕ → Type 0
WantedBelow n None = Unit {0}
WantedBelow n (Some at) = at < n

-- it stays where the arena grows
abbrev pub WantedStays : Type 0
WantedStays = (old new : List Node) (v : Option ℕ) → Grows old new → WantedBelow (length old) v → wanted_in new v ≡ wanted_in old v

abbrev pub WantedStaysBelow : Type 0
WantedStaysBelow = (old new : List Node) (v : Option ℕ) → Grows old new → WantedBelow (length old) v → WantedBelow (length new) v
