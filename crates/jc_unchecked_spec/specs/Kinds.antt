-- The kinds of warnings by their numbers, and lists of warnings.
use Rattle.std.specs.Prelude.{ℕ, Bool, true, false, List, [], ◌∷◌}
use Rattle.jc_rules.specs.declared.rule.Place.{Place}
use Rattle.jc_unchecked_spec.specs.declared.warning.Warning.{Warning}
use Rattle.jc_unchecked_spec.specs.declared.warning.WarningKind.{WarningKind}
use Rattle.jc_unchecked_spec.specs.declared.warning.WarningKind.TheVariants as kind

abbrev pub kind_number : WarningKind → ℕ
kind_number kind.Conversion = 1
kind_number kind.Cast = 2
kind_number kind.RawCall = 3
kind_number kind.RawField = 4
kind_number kind.Result = 5
kind_number kind.RawSupertype = 6
kind_number kind.GenericArray = 7

-- a list of one warning, or of none where the condition is false
abbrev pub warned_if : Bool → WarningKind → Place → List Warning
warned_if true k place = record { place = place; kind = k } ∷ []
warned_if false k place = []
