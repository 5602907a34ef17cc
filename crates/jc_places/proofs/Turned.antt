-- Lists that are read from their last member.
use Rattle.std.proofs.Common.{◌≡◌, List, [], ◌∷◌, ◌++◌, map, reverse, ap}
use Rattle.std.proofs.lemmas.List.{reverse-append}

pub turned : {A B : Type 0} (f : A → B) (xs : List A) (x : A) → map f (reverse (xs ++ x ∷ [])) ≡ f x ∷ map f (reverse xs)
turned f xs x = ap (map f) (reverse-append xs (x ∷ []))
