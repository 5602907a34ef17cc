-- Steps towards all that is known of the classes.
use Rattle.std.specs.Prelude.{◌≡◌, ◌⊎◌, ◌<◌, ◌+◌, ℕ, Bool, true, false, List, [], ◌∷◌, Option, Some, None, slice_set}
use Rattle.jc_declares.specs.declared.heads.Heads.{Heads}
use Rattle.jc_declares.specs.Heads.{Named}
use Rattle.jc_declares.specs.Knowing.{is_some, settled, rounds}
use Rattle.jc_looking.specs.Members.{known_in}
use Rattle.jc_settling.specs.declared.settled.Outcome.{Outcome}
use Rattle.jc_settling.specs.declared.settled.Outcome.TheVariants as outcome

-- what a class inherits; None where it needs others first
abbrev pub told : Outcome → Option Named
told (outcome.Inherits es) = Some es
told (outcome.Needs cs) = None

-- all that the list says is known after some rounds
abbrev pub IsSound : Heads → List (Option Named) → Type 0
IsSound H ks = (n : ℕ) × ((c : ℕ) (es : Named) → known_in ks c ≡ Some es → rounds H n c ≡ Some es)

-- class c is known already, or can't be settled
abbrev pub IsIdle : Heads → List (Option Named) → ℕ → Type 0
IsIdle H ks c = (is_some (known_in ks c) ≡ true) ⊎ (settled H (known_in ks) c ≡ None)

-- of how many classes it isn't known yet what they inherit
abbrev pub blanks : List (Option Named) → ℕ
blanks [] = 0
blanks (None ∷ ks) = blanks ks + 1
blanks (Some es ∷ ks) = blanks ks

-- what one step did at class c: it settled it, or did nothing
abbrev pub Stepped : Heads → List (Option Named) → List (Option Named) → ℕ → Bool → Type 0
Stepped H old new c true = (es : Named) × (is_some (known_in old c) ≡ false) × (settled H (known_in old) c ≡ Some es) × (new ≡ slice_set old c (Some es))
Stepped H old new c false = (new ≡ old) × IsIdle H old c

-- what a step for each class below i did
abbrev pub Passed : Heads → List (Option Named) → List (Option Named) → ℕ → Bool → Type 0
Passed H old new i true = blanks new < blanks old
Passed H old new i false = (new ≡ old) × ((c : ℕ) → c < i → IsIdle H old c)

-- something changed before, or does now
abbrev pub if_did : Bool → Bool → Bool
if_did true changed = true
if_did false changed = changed
