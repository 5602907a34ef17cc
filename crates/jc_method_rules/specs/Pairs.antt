-- What a method breaks beside others.
use Rattle.std.specs.Prelude.{◌≡◌, Bool, true, false, ◌&&◌, ◌||◌, List, [], ◌∷◌, ◌++◌, Option, Some, None}
use Rattle.jc_rules.specs.declared.rule.Place.{Place}
use Rattle.jc_rules.specs.declared.rule.Refusal.{Refusal}
use Rattle.jc_types.specs.declared.form.Ty.{Ty}
use Rattle.jc_types.specs.declared.ids.MethodId.{MethodId}
use Rattle.jc_types.specs.declared.table.Table.{Table}
use Rattle.jc_types.specs.Sameness.{same}
use Rattle.jc_overriding.specs.Overriding.{overrides}
use Rattle.jc_header_rules.specs.Headers.{overrides_some, pair_broken, repeats, replaces, replacing_broken, statics_meet}
use Rattle.jc_header_rules.specs.Places.{broken_if, of_each}
use Rattle.jc_members.specs.Fixed.{is_own_erasure}

-- of method m, beside method n
abbrev pub pair_breaks : Table → MethodId → Place → MethodId → List Refusal
pair_breaks T m place n = broken_if (repeats T m n) 503 place ++ broken_if (statics_meet T m n) 505 place ++ replacing_broken T m n place (replaces T m n)

-- .. and beside each of these
abbrev pub pairs_breaks : Table → MethodId → Place → List MethodId → List Refusal
pairs_breaks T m place [] = []
pairs_breaks T m place (n ∷ ns) = pair_breaks T m place n ++ pairs_breaks T m place ns

-- method m overrides one of these
abbrev pub overrides_one : Table → MethodId → List MethodId → Bool
overrides_one T m [] = false
overrides_one T m (n ∷ ns) = overrides T m n || overrides_one T m ns

-- beside others than these method m breaks nothing, and it overrides none of them
pub record AreEnough (T : Table) (m : MethodId) (ids : List MethodId) : Type 0 where
  pub pairs : (place : Place) → pairs_breaks T m place ids ≡ of_each (pair_broken T m place) 0 T.methods
  pub overridden : overrides_one T m ids ≡ overrides_some T m 0 T.methods

-- a result is that of a declared method, and its own erasure: so each class has that method with it
abbrev pub keeps_result : Table → Option Ty → Option Ty → Bool
keeps_result T None None = true
keeps_result T None (Some t) = false
keeps_result T (Some s) None = false
keeps_result T (Some s) (Some t) = same s t && is_own_erasure T t
