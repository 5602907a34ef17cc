-- Warnings of two parts are told part by part, and what is told is in the list.
use Rattle.std.proofs.Common.{◌≡◌, ◌⊎◌, inl, inr, ℕ, suc, ◌+◌, ◌<◌, List, [], ◌∷◌, ◌++◌, length, drop, get_or, add-one, drop-cons, refl, sym, ap, ◌∙◌}
use Rattle.jc_unchecked_spec.specs.declared.warning.Warning.{Warning}
use Rattle.jc_unchecked_spec.specs.Heads.{of_each}
use Rattle.jc_unchecked_laws.specs.Told.{IsTold}
use Rattle.jc_unchecked_laws.proofs.Lists.{parts_told}
use Rattle.jc_unchecked_list.specs.Telling.{each_told, told}

pub told_both : (vs ws before : List Warning) → told (vs ++ ws) before ≡ told vs (told ws before)
told_both [] ws before = refl
told_both (v ∷ vs) ws before = ap (λ xs. xs ++ v ∷ []) (told_both vs ws before)

pub ruleset telling = (told_both)

-- ---- each of a list

first_left : {X : Type 0} (xs : List X) (i : ℕ) (x : X) → i < length xs → x ≡ get_or xs i x → drop i xs ≡ x ∷ drop (i + 1) xs
first_left xs i x within is = drop-cons xs i x within ∙ ap (λ y. y ∷ drop (suc i) xs) (sym is) ∙ ap (λ k. x ∷ drop k xs) (sym (add-one i))

-- a loop over all, each counted
pub each_turn : {X : Type 0} (f : ℕ → X → List Warning) (before next : List Warning) (xs : List X) (i : ℕ) (x : X)
    → i < length xs → x ≡ get_or xs i x → next ≡ told (f i x) before → each_told f (i + 1) (drop (i + 1) xs) next ≡ each_told f i (drop i xs) before
each_turn f before next xs i x within is e =
    ap (each_told f (i + 1) (drop (i + 1) xs)) e ∙ ap (λ k. each_told f k (drop (i + 1) xs) (told (f i x) before)) (add-one i) ∙ ap (λ l. each_told f i l before) (sym (first_left xs i x within is))

-- ---- what is told

pub in_told : (x : Warning) (ws before : List Warning) → IsTold x (told ws before) → IsTold x ws ⊎ IsTold x before
in_told x [] before t = inr t
in_told x (w ∷ ws) before t = by (in_told x ws before) (parts_told.of_two x (told ws before) (w ∷ []) t)
  where
    later : IsTold x ws ⊎ IsTold x before → IsTold x (w ∷ ws) ⊎ IsTold x before
    later (inl t) = inl (inr t)
    later (inr t) = inr t

    by : (IsTold x (told ws before) → IsTold x ws ⊎ IsTold x before) → IsTold x (told ws before) ⊎ IsTold x (w ∷ []) → IsTold x (w ∷ ws) ⊎ IsTold x before
    by further (inl t) = later (further t)
    by further (inr (inl e)) = inl (inl e)
    by further (inr (inr t)) = absurd t

pub told_own : (x : Warning) (ws before : List Warning) → IsTold x ws → IsTold x (told ws before)
told_own x [] before t = absurd t
told_own x (w ∷ ws) before (inl e) = parts_told.of_second x (told ws before) (w ∷ []) (inl e)
told_own x (w ∷ ws) before (inr t) = parts_told.of_first x (told ws before) (w ∷ []) (told_own x ws before t)

pub told_before : (x : Warning) (ws before : List Warning) → IsTold x before → IsTold x (told ws before)
told_before x [] before t = t
told_before x (w ∷ ws) before t = parts_told.of_first x (told ws before) (w ∷ []) (told_before x ws before t)

pub in_each : {X : Type 0} (x : Warning) (f : ℕ → X → List Warning) (i : ℕ) (ys : List X) (before : List Warning) → IsTold x (each_told f i ys before) → IsTold x (of_each f i ys) ⊎ IsTold x before
in_each x f i [] before t = inr t
in_each x f i (y ∷ ys) before t = by (in_each x f (suc i) ys (told (f i y) before) t)
  where
    own : IsTold x (f i y) ⊎ IsTold x before → IsTold x (f i y ++ of_each f (suc i) ys) ⊎ IsTold x before
    own (inl t) = inl (parts_told.of_first x (f i y) (of_each f (suc i) ys) t)
    own (inr t) = inr t

    by : IsTold x (of_each f (suc i) ys) ⊎ IsTold x (told (f i y) before) → IsTold x (f i y ++ of_each f (suc i) ys) ⊎ IsTold x before
    by (inl t) = inl (parts_told.of_second x (f i y) (of_each f (suc i) ys) t)
    by (inr t) = own (in_told x (f i y) before t)

pub each_before : {X : Type 0} (x : Warning) (f : ℕ → X → List Warning) (i : ℕ) (ys : List X) (before : List Warning) → IsTold x before → IsTold x (each_told f i ys before)
each_before x f i [] before t = t
each_before x f i (y ∷ ys) before t = each_before x f (suc i) ys (told (f i y) before) (told_before x (f i y) before t)

pub each_own : {X : Type 0} (x : Warning) (f : ℕ → X → List Warning) (i : ℕ) (ys : List X) (before : List Warning) → IsTold x (of_each f i ys) → IsTold x (each_told f i ys before)
each_own x f i [] before t = absurd t
each_own x f i (y ∷ ys) before t = by (each_own x f (suc i) ys (told (f i y) before)) (parts_told.of_two x (f i y) (of_each f (suc i) ys) t)
  where
    by : (IsTold x (of_each f (suc i) ys) → IsTold x (each_told f (suc i) ys (told (f i y) before))) → IsTold x (f i y) ⊎ IsTold x (of_each f (suc i) ys)
        → IsTold x (each_told f (suc i) ys (told (f i y) before))
    by further (inl t) = each_before x f (suc i) ys (told (f i y) before) (told_own x (f i y) before t)
    by further (inr t) = further t
