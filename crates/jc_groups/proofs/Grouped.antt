-- What is in a group after all of a list is grouped.
use Rattle.std.proofs.Common.{◌≡◌, ◌≢◌, ◌<◌, ◌+◌, ◌-◌, length-set, length-append, replicate, ℕ, zero, suc, Bool, true, false, List, [], ◌∷◌, ◌++◌, Option, Some, None, length, slice_get, slice_set, append_assoc, append-nil, refl, sym, ap, ◌∙◌, arith}
use Rattle.std.specs.Prelude.{cond, ◌==◌}
use Rattle.std.proofs.lemmas.Grind.{common_steps}
use Rattle.std.proofs.lemmas.List.{get_or-set_same}
use Rattle.std.proofs.lemmas.Option.{slice_get-get_or}
use Rattle.jc_rules.proofs.Truths.{equal_numbers, other_numbers}
use Rattle.jc_groups.specs.Groups.{or_empty, group_in, padded, grouped_in, grouped_as, grouped_all, picked_as, picked}

abbrev nothing : List ℕ
nothing = []

get_same : (T : List (List ℕ)) (q : ℕ) (y : List ℕ) → q < length T → slice_get (slice_set T q y) q ≡ Some y
get_same T q y l =
    let m : q < length (slice_set T q y) = grind (arith, common_steps, length-set) in
    slice_get-get_or (slice_set T q y) q y m ∙ ap Some (get_or-set_same T q y y l)

get_other : (T : List (List ℕ)) (q s : ℕ) (y : List ℕ) → s ≢ q → slice_get (slice_set T q y) s ≡ slice_get T s
get_other [] q s y ne = refl
get_other (x ∷ T) zero zero y ne = absurd (ne refl)
get_other (x ∷ T) zero (suc s) y ne = refl
get_other (x ∷ T) (suc q) zero y ne = refl
get_other (x ∷ T) (suc q) (suc s) y ne = get_other T q s y (λ e. ne (ap suc e))

empty_group : (k s : ℕ) → or_empty (slice_get (replicate k nothing) s) ≡ []
empty_group zero s = refl
empty_group (suc k) zero = refl
empty_group (suc k) (suc s) = empty_group k s

behind : (T : List (List ℕ)) (k s : ℕ) → or_empty (slice_get (T ++ replicate k nothing) s) ≡ or_empty (slice_get T s)
behind [] k s = empty_group k s
behind (x ∷ T) k zero = refl
behind (x ∷ T) k (suc s) = behind T k s

room : (T : List (List ℕ)) (q : ℕ) → q < length (padded q T)
room T q =
    let a : length (padded q T) ≡ length T + length (replicate (suc q - length T) nothing) = length-append T _ in
    let b : length (replicate (suc q - length T) nothing) ≡ suc q - length T = grind (arith, common_steps) in
    omega arith

one_group : (b : Bool) (ns : List ℕ) (T : List (List ℕ)) (q s n : ℕ) → (s == q) ≡ b → slice_get T q ≡ Some ns → q < length T
    → or_empty (slice_get (slice_set T q (ns ++ n ∷ [])) s) ≡ or_empty (slice_get T s) ++ cond b (n ∷ []) []
one_group true ns T q s n e f l =
    let sq : s ≡ q = equal_numbers s q e in
    ap (λ k. or_empty (slice_get (slice_set T q (ns ++ n ∷ [])) k)) sq ∙ ap or_empty (get_same T q (ns ++ n ∷ []) l)
    ∙ sym (ap (λ m. m ++ n ∷ []) (ap (λ k. or_empty (slice_get T k)) sq ∙ ap or_empty f))
one_group false ns T q s n e f l =
    ap or_empty (get_other T q s (ns ++ n ∷ []) (other_numbers s q e)) ∙ sym (append-nil (or_empty (slice_get T s)))

in_group : (o : Option (List ℕ)) (T : List (List ℕ)) (q s n : ℕ) → slice_get T q ≡ o → q < length T
    → or_empty (slice_get (grouped_in q n T o) s) ≡ or_empty (slice_get T s) ++ cond (s == q) (n ∷ []) []
in_group None T q s n f l = absurd (none_some (sym f ∙ slice_get-get_or T q [] l))
  where
    none_some : {x : List ℕ} → None ≡ Some x → ⊥
    none_some e = grind (arith, common_steps)
in_group (Some ns) T q s n f l = one_group (s == q) ns T q s n refl f l

as_grouped : (e : Option ℕ) (i : ℕ) (T : List (List ℕ)) (s : ℕ) → group_in (grouped_as e i T) s ≡ group_in T s ++ picked_as s e i
as_grouped None i T s = sym (append-nil (group_in T s))
as_grouped (Some q) i T s =
    in_group (slice_get (padded q T) q) (padded q T) q s i refl (room T q) ∙ ap (λ m. m ++ cond (s == q) (i ∷ []) []) (behind T (suc q - length T) s)

-- in a group is what was there, and behind it what is grouped there
pub all_grouped : {X : Type 0} (f : X → Option ℕ) (xs : List X) (i : ℕ) (T : List (List ℕ)) (s : ℕ) → group_in (grouped_all f i xs T) s ≡ group_in T s ++ picked f s i xs
all_grouped f [] i T s = sym (append-nil (group_in T s))
all_grouped f (x ∷ xs) i T s =
    all_grouped f xs (suc i) (grouped_as (f x) i T) s
    ∙ ap (λ m. m ++ picked f s (suc i) xs) (as_grouped (f x) i T s)
    ∙ append_assoc (group_in T s) (picked_as s (f x) i) (picked f s (suc i) xs)
