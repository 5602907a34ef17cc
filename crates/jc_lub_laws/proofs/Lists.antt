-- Members of lists.
use Rattle.std.proofs.Common.{◌≡◌, ◌⊎◌, inl, inr, Bool, true, false, List, [], ◌∷◌, ◌++◌, map, refl, sym, ap, subst, ◌∙◌}
use Rattle.std.specs.Prelude.{cond}
use Rattle.std.specs.List.{filter}
use Rattle.jc_header_rules.specs.Checked.{IsAmong}

pub among_map : {X Y : Type 0} (g : X → Y) (x : X) (xs : List X) → IsAmong x xs → IsAmong (g x) (map g xs)
among_map g x [] o = absurd o
among_map g x (y ∷ xs) (inl e) = inl (ap g e)
among_map g x (y ∷ xs) (inr o) = inr (among_map g x xs o)

-- what holds of the image of each member holds of each member of the image
pub of_map : {X Y : Type 0} (g : X → Y) (Q : Y → Type 0) (xs : List X) → ((x : X) → IsAmong x xs → Q (g x)) → (y : Y) → IsAmong y (map g xs) → Q y
of_map g Q [] h y o = absurd o
of_map g Q (x ∷ xs) h y (inl e) = subst Q (sym e) (h x (inl refl))
of_map g Q (x ∷ xs) h y (inr o) = of_map g Q xs (λ z m. h z (inr m)) y o

pub among_parts : {X : Type 0} (x : X) (xs ys : List X) → IsAmong x (xs ++ ys) → IsAmong x xs ⊎ IsAmong x ys
among_parts x [] ys o = inr o
among_parts x (y ∷ xs) ys (inl e) = inl (inl e)
among_parts x (y ∷ xs) ys (inr o) = elim (among_parts x xs ys o) [ inl p ↦ inl (inr p) | inr q ↦ inr q ]

module _ {X : Type 0} (p : X → Bool) where
  passed_by : (x y : X) (xs : List X) (t : Bool) → p y ≡ t → (IsAmong x xs → IsAmong x (y ∷ xs) × (p x ≡ true)) → IsAmong x (cond t (y ∷ xs) xs) → IsAmong x (y ∷ xs) × (p x ≡ true)
  passed_by x y xs true e h (inl s) = (inl s, ap p s ∙ e)
  passed_by x y xs true e h (inr o) = h o
  passed_by x y xs false e h o = h o

  widen : (x y : X) (xs ys : List X) → (IsAmong x ys → IsAmong x xs) → IsAmong x (y ∷ ys) × (p x ≡ true) → IsAmong x (y ∷ xs) × (p x ≡ true)
  widen x y xs ys h (inl s, q) = (inl s, q)
  widen x y xs ys h (inr m, q) = (inr (h m), q)

  -- a member of the filtered list is a member, and passes
  pub passed : (x : X) (xs : List X) → IsAmong x (filter p xs) → IsAmong x xs × (p x ≡ true)
  passed x [] o = absurd o
  passed x (y ∷ xs) o =
      widen x y xs (filter p xs) (λ m. (passed x xs m).0) (passed_by x y (filter p xs) (p y) refl (λ m. (inr m, (passed x xs m).1)) o)

  kept_by : (x y : X) (xs : List X) (t : Bool) → p y ≡ t → p x ≡ true → IsAmong x (y ∷ xs) → IsAmong x (cond t (y ∷ xs) xs)
  kept_by x y xs true e q o = o
  kept_by x y xs false e q (inl s) = cc
  kept_by x y xs false e q (inr o) = o

  -- a member that passes is a member of the filtered list
  pub kept : (x : X) (xs : List X) → p x ≡ true → IsAmong x xs → IsAmong x (filter p xs)
  kept x [] q o = absurd o
  kept x (y ∷ xs) q (inl s) = kept_by x y (filter p xs) (p y) refl q (inl s)
  kept x (y ∷ xs) q (inr o) = kept_by x y (filter p xs) (p y) refl q (inr (kept x xs q o))
