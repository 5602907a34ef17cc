-- Operators that are turned.
use Rattle.std.proofs.Common.{◌≡◌, List, [], ◌∷◌, ◌++◌, reverse}
use Rattle.std.proofs.lemmas.List.{reverse-append}

pub turned_more : {A : Type 0} (xs : List A) (x : A) → reverse (xs ++ x ∷ []) ≡ x ∷ reverse xs
turned_more xs x = reverse-append xs (x ∷ [])

pub ruleset turning = (turned_more)
