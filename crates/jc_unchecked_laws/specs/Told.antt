-- What a list of warnings tells of, and that it ascends.
use Rattle.std.specs.Prelude.{◌≡◌, ◌⊎◌, Bool, true, List, [], ◌∷◌, ◌++◌}
use Rattle.jc_rules.specs.declared.rule.Place.{Place}
use Rattle.jc_typed.specs.declared.program.TypedProgram.{TypedProgram}
use Rattle.jc_unchecked_spec.specs.declared.warning.Warning.{Warning}
use Rattle.jc_unchecked_spec.specs.declared.warning.WarningKind.{WarningKind}
use Rattle.jc_unchecked_spec.specs.Kinds.{warned_if}
use Rattle.jc_unchecked_spec.specs.Warnings.{all_warned, comes_before}

-- a warning is one of these
abbrev pub IsTold : Warning → List Warning → Type 0
IsTold w [] = ⊥
IsTold w (v ∷ vs) = (v ≡ w) ⊎ IsTold w vs

-- .. and one of those of a program, in whatever order, and however often
abbrev pub IsToldAnywhere : TypedProgram → Warning → Type 0
IsToldAnywhere P w = IsTold w (all_warned P)

-- each comes before the next one
abbrev pub AscendsFrom : Warning → List Warning → Type 0
AscendsFrom w [] = Unit {0}
AscendsFrom w (v ∷ vs) = (comes_before w v ≡ true) × AscendsFrom v vs

abbrev pub Ascends : List Warning → Type 0
Ascends [] = Unit {0}
Ascends (w ∷ ws) = AscendsFrom w ws

-- a warning of a kind at a place
abbrev pub warning : WarningKind → Place → Warning
warning k place = record { place = place; kind = k }

-- two lists tell what one of them tells; a condition tells its warning where it holds, and nothing else
pub record PartsAreTold : Type 0 where
  pub of_two : (w : Warning) (vs ws : List Warning) → IsTold w (vs ++ ws) → IsTold w vs ⊎ IsTold w ws
  pub of_first : (w : Warning) (vs ws : List Warning) → IsTold w vs → IsTold w (vs ++ ws)
  pub of_second : (w : Warning) (vs ws : List Warning) → IsTold w ws → IsTold w (vs ++ ws)
  pub where_told : (w : Warning) (b : Bool) (k : WarningKind) (place : Place) → IsTold w (warned_if b k place) → (b ≡ true) × (warning k place ≡ w)
  pub told_where : (b : Bool) (k : WarningKind) (place : Place) → b ≡ true → IsTold (warning k place) (warned_if b k place)
