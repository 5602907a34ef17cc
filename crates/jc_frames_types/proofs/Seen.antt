-- States whose units lie in vectors, the topmost one last.
use Rattle.std.proofs.Common.{◌≡◌, ◌∙◌, ◌≤◌, ◌<◌, ℕ, List, [], ◌∷◌, ◌++◌, length, map, reverse, slice_set, refl, sym, ap}
use Rattle.std.proofs.lemmas.List.{length-map, length-reverse, map-append, map-set, reverse-append, reverse-reverse}

-- one unit more on top
pub seen_more : {A B : Type 0} (f : A → B) (xs : List A) (x : A) → reverse (map f (xs ++ x ∷ [])) ≡ f x ∷ reverse (map f xs)
seen_more f xs x = ap reverse (map-append f xs (x ∷ [])) ∙ reverse-append (map f xs) (f x ∷ [])

-- as many units
pub seen_length : {A B : Type 0} (f : A → B) (xs : List A) → length (reverse (map f xs)) ≡ length xs
seen_length f xs = length-reverse (map f xs) ∙ length-map xs f

-- one unit changed
pub seen_set : {A B : Type 0} (f : A → B) (xs : List A) (i : ℕ) (x : A) → map f (slice_set xs i x) ≡ slice_set (map f xs) i (f x)
seen_set f xs i x = map-set f xs i x

-- from the bottom on
pub seen_up : {A B : Type 0} (f : A → B) (xs : List A) → reverse (reverse (map f xs)) ≡ map f xs
seen_up f xs = reverse-reverse (map f xs)

-- mapped in either order
pub seen_mapped : (A B : Type 0) (g : A → B) (xs : List A) → reverse (map g xs) ≡ map g (reverse xs)
seen_mapped A B g [] = refl
seen_mapped A B g (x ∷ xs) =
    reverse-append (g x ∷ []) (map g xs) ∙ ap (λ (ys : List B). ys ++ g x ∷ []) (seen_mapped A B g xs)
    ∙ sym (map-append g (reverse xs) (x ∷ [])) ∙ ap (map g) (sym (reverse-append (x ∷ []) xs))

pub ruleset unit_rules = (seen_more, seen_length, seen_set, seen_up)

pub ruleset mapped_rules = (seen_mapped)
