use Rattle.std.proofs.Common.{◌≡◌, ◌≤◌, ℕ, length, drop}
use Rattle.std.specs.HashMap.{get}
use Rattle.std.specs.List.{position_from}
use Rattle.std.specs.Prelude.{nat_eq}
use Rattle.jc_frames_steps.proofs.places.numbers_of.Given as goal

-- the places from here on have their numbers
abbrev pub invariant-numbering : goal.invariant-numbering
invariant-numbering l = (l.number ≤ length l.list) × ((at : ℕ) → get nat_eq l.numbers at ≡ position_from (λ (p : ℕ). nat_eq p at) l.number (drop l.number l.list))

abbrev pub decreases-numbering : goal.decreases-numbering
decreases-numbering l = l.number
