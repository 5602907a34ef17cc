-- What lists hold, and what tests find in them.
use Rattle.std.proofs.Common.{◌≡◌, ◌⊎◌, inl, inr, arith, Bool, true, false, ◌||◌, List, [], ◌∷◌, ◌++◌, refl, sym, ap, ◌∙◌}
use Rattle.std.specs.List.{list_any}
use Rattle.std.proofs.lemmas.Bool.{or_right, and_from, and_parts}
use Rattle.jc_types.specs.declared.form.Ty.{Ty}
use Rattle.jc_types.specs.Sameness.{same}
use Rattle.jc_types.proofs.Sameness.{same_self, same_told}
use Rattle.jc_overriding.specs.Signatures.{same_all}

abbrev pub In : {X : Type 0} → X → List X → Type 0
In x [] = ⊥
In x (y ∷ ys) = (x ≡ y) ⊎ In x ys

pub in_left : {X : Type 0} (x : X) (xs ys : List X) → In x xs → In x (xs ++ ys)
in_left x [] ys m = absurd m
in_left x (y ∷ xs) ys (inl e) = inl e
in_left x (y ∷ xs) ys (inr m) = inr (in_left x xs ys m)

pub in_right : {X : Type 0} (x : X) (xs ys : List X) → In x ys → In x (xs ++ ys)
in_right x [] ys m = m
in_right x (y ∷ xs) ys m = inr (in_right x xs ys m)

pub in_either : {X : Type 0} (x : X) (xs ys : List X) → In x (xs ++ ys) → In x xs ⊎ In x ys
in_either x [] ys m = inr m
in_either x (y ∷ xs) ys (inl e) = inl (inl e)
in_either x (y ∷ xs) ys (inr m) = by (in_either x xs ys m)
  where
    by : In x xs ⊎ In x ys → In x (y ∷ xs) ⊎ In x ys
    by (inl m) = inl (inr m)
    by (inr m) = inr m

-- ---- tests

pub is_false : (b : Bool) → (b ≡ true → ⊥) → b ≡ false
is_false true h = absurd (h refl)
is_false false h = refl

pub any_in : {X : Type 0} (f : X → Bool) (x : X) (xs : List X) → In x xs → f x ≡ true → list_any f xs ≡ true
any_in f x [] m e = absurd m
any_in f x (y ∷ ys) (inl is) e = ap (λ b. b || list_any f ys) (ap f (sym is) ∙ e)
any_in f x (y ∷ ys) (inr m) e = or_right (f y) (list_any f ys) (any_in f x ys m e)

pub in_any : {X : Type 0} (f : X → Bool) (xs : List X) → list_any f xs ≡ true → (x : X) × In x xs × (f x ≡ true)
in_any f [] e = cc
in_any {X = X} f (y ∷ ys) e = by (f y) refl (λ k. in_any f ys k) e
  where
    by : (b : Bool) → f y ≡ b → (list_any f ys ≡ true → (x : X) × In x ys × (f x ≡ true)) → (b || list_any f ys) ≡ true → (x : X) × In x (y ∷ ys) × (f x ≡ true)
    by true g h e = (y, inl refl, g)
    by false g h e = let rest = h e in (rest.0, inr rest.1, rest.2)

-- ---- lists of types

pub all_same : (xs ys : List Ty) → same_all xs ys ≡ true → xs ≡ ys
all_same [] [] e = refl
all_same [] (y ∷ ys) e = cc
all_same (x ∷ xs) [] e = cc
all_same (x ∷ xs) (y ∷ ys) e =
    let both = and_parts (same x y) (same_all xs ys) e in
    ap (λ z. z ∷ xs) (same_told x y both.0) ∙ ap (λ zs. y ∷ zs) (all_same xs ys both.1)

pub self_same : (xs : List Ty) → same_all xs xs ≡ true
self_same [] = refl
self_same (x ∷ xs) = and_from (same x x) (same_all xs xs) (same_self x) (self_same xs)
