-- The order of broken rules, and the least of those that a fact allows.
use Rattle.std.specs.Prelude.{◌≡◌, ◌⊎◌, ◌==◌, nat_lt, Bool, false, List, [], ◌∷◌, Option, Some, None, if◌then◌else◌}
use Rattle.jc_rules.specs.declared.rule.Refusal.{Refusal}

-- of two breaks of one stage a comes first: by file, then offset, then the number of the rule
abbrev pub before : Refusal → Refusal → Bool
before a b =
    if a.place.file == b.place.file then (if a.place.at == b.place.at then nat_lt a.rule b.rule else nat_lt a.place.at b.place.at)
    else nat_lt a.place.file b.place.file

-- this is one of them, and none of them comes before it
pub record IsLeast (P : Refusal → Type 0) (b : Refusal) : Type 0 where
  pub is : P b
  pub least : (c : Refusal) → P c → before c b ≡ false

-- the least that P allows, or none where it allows none
abbrev pub LeastOf : (Refusal → Type 0) → Option Refusal → Type 0
LeastOf P None = (c : Refusal) → P c → ⊥
LeastOf P (Some b) = IsLeast P b

-- the first of two: the earlier found one where neither comes before the other
abbrev pub sooner : Option Refusal → Option Refusal → Option Refusal
sooner None y = y
sooner (Some a) None = Some a
sooner (Some a) (Some b) = if before b a then Some b else Some a

-- the least of a list, where `found` was found before it
abbrev pub least : Option Refusal → List Refusal → Option Refusal
least found [] = found
least found (b ∷ bs) = least (sooner found (Some b)) bs

-- it is one of a list
abbrev pub IsOf : Refusal → List Refusal → Type 0
IsOf b [] = ⊥
IsOf b (c ∷ cs) = (b ≡ c) ⊎ IsOf b cs
