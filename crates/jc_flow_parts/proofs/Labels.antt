-- A fact of some member of a list that is read from its last one.
use Rattle.std.proofs.Common.{◌≡◌, ◌||◌, Bool, true, false, List, [], ◌∷◌, ◌++◌, refl}
use Rattle.std.specs.List.{list_any}

pub any_more : {A : Type 0} (f : A → Bool) (xs : List A) (x : A) → list_any f (xs ++ x ∷ []) ≡ list_any f xs || f x
any_more f [] x = elim (f x) as (λ b. b || false ≡ b) [ true ↦ refl | false ↦ refl ]
any_more f (y ∷ xs) x = elim (f y) as (λ b. (b || list_any f (xs ++ x ∷ [])) ≡ (b || list_any f xs) || f x) [ true ↦ refl | false ↦ any_more f xs x ]

pub ruleset labels = (any_more)
