-- Broken rules at places, and lists of them.
use Rattle.std.specs.Prelude.{ℕ, suc, Bool, true, false, List, [], ◌∷◌, ◌++◌}
use Rattle.jc_rules.specs.declared.rule.Place.{Place}
use Rattle.jc_rules.specs.declared.rule.Refusal.{Refusal}
use Rattle.jc_types.specs.declared.declarations.TypePlaces.{TypePlaces}
use Rattle.jc_types.specs.declared.form.Ty.{Ty}

-- a list of one broken rule, by its number, or of none where the condition is false
abbrev pub broken : ℕ → Place → List Refusal
broken rule place = record { rule = rule; place = place; have = 0 } ∷ []

abbrev pub broken_if : Bool → ℕ → Place → List Refusal
broken_if true rule place = broken rule place
broken_if false rule place = []

-- of each of these, counted from i
abbrev pub of_each : {X : Type 0} → (ℕ → X → List Refusal) → ℕ → List X → List Refusal
of_each f i [] = []
of_each f i (x ∷ xs) = f i x ++ of_each f (suc i) xs

-- of each written type, with where it is written
abbrev pub of_written : (Ty → TypePlaces → List Refusal) → List Ty → List TypePlaces → List Refusal
of_written f [] places = []
of_written f (t ∷ ts) [] = []
of_written f (t ∷ ts) (p ∷ places) = f t p ++ of_written f ts places
