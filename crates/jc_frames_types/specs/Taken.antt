-- Units that were taken from a stack.
use Rattle.std.specs.Prelude.{◌≡◌, ℕ, ◌≤◌, List, [], ◌∷◌, length, map, drop, MatchOption, Option, Some, None}
use Rattle.jc_class_out.specs.declared.model.ClassModel.{ClassModel}
use Rattle.jc_class_out.specs.declared.model.Item.TheVariants.{Long}
use Rattle.jc_class_out.specs.declared.model.Item.{Item}
use Rattle.jc_frames_types.specs.Items.{item_of}
use Rattle.jc_frames_types.specs.States.{behind_assignable}
use Rattle.jc_frames_types.specs.declared.units.UnitType.{UnitType}
use Rattle.jc_frames_types.specs.declared.stacks.Taken.{Taken}
use Rattle.jc_frames_types.specs.declared.stacks.Taken.TheVariants.{NoUnits, One, Two}

-- from the top
abbrev pub units_in : Taken → List Item
units_in NoUnits = []
units_in (One a) = item_of a ∷ []
units_in (Two a b) = item_of a ∷ item_of b ∷ []

-- how many units an item takes, beside those behind its first one
abbrev pub units_used : Item → List UnitType → Option ℕ
units_used Long [] = None
units_used Long (u ∷ us) = Some 2
units_used i us = Some 1

-- how many units go where an item is wanted
abbrev pub Goes : List ClassModel → Item → List UnitType → Option ℕ → Type 0
Goes classes j units used = MatchOption used (behind_assignable classes j (map item_of units) ≡ None) (λ (n : ℕ). (n ≤ length units) × (behind_assignable classes j (map item_of units) ≡ Some (map item_of (drop n units))))
