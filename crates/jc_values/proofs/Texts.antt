-- The characters of a text, taken one by one.
use Rattle.std.proofs.Common.{◌≡◌, ◌∷◌, [], ℕ, List, map, refl, ap}

pub map_same : (xs : List ℕ) → map (λ (x : ℕ). x) xs ≡ xs
map_same [] = refl
map_same (x ∷ xs) = ap (λ (ys : List ℕ). x ∷ ys) (map_same xs)
