-- The least of breaks that follow one another.
use Rattle.std.proofs.Common.{◌≡◌, ◌+◌, ◌<◌, ℕ, suc, Option, List, [], ◌∷◌, ◌++◌, drop, length, get_or, add-one, drop-cons, refl, sym, ap, ◌∙◌}
use Rattle.jc_types.specs.Breaks.{least}
use Rattle.jc_types.proofs.Least.{least_append}
use Rattle.jc_rules.specs.declared.rule.Refusal.{Refusal}
use Rattle.jc_declares.specs.Writing.{Broken}
use Rattle.jc_declares.specs.HeadBreaks.{broken_at, of_each}
use Rattle.jc_declares.specs.Breaks.{in_file}

pub in_file-append : (file : ℕ) (xs ys : List Broken) → in_file file (xs ++ ys) ≡ in_file file xs ++ in_file file ys
in_file-append file [] ys = refl
in_file-append file (x ∷ xs) ys = ap (λ (bs : List Refusal). broken_at x.rule file x.at ++ bs) (in_file-append file xs ys)

pub ruleset counting = (in_file-append, least_append)

-- what is left of a list, by its first element
pub first_left : {X : Type 0} (xs : List X) (i : ℕ) (x : X) → i < length xs → x ≡ get_or xs i x → drop i xs ≡ x ∷ drop (i + 1) xs
first_left xs i x within is =
    drop-cons xs i x within ∙ ap (λ y. y ∷ drop (suc i) xs) (sym is) ∙ ap (λ k. x ∷ drop k xs) (sym (add-one i))

-- one turn of a loop over what breaks rules
pub turn : {X : Type 0} (F : List X → List Refusal) (G : X → List Refusal) → ((x : X) (xs : List X) → F (x ∷ xs) ≡ G x ++ F xs) → (found next : Option Refusal) (xs : List X) (i : ℕ) (x : X)
    → i < length xs → x ≡ get_or xs i x → next ≡ least found (G x) → least next (F (drop (i + 1) xs)) ≡ least found (F (drop i xs))
turn F G app found next xs i x within is e =
    ap (λ n. least n (F (drop (i + 1) xs))) e
    ∙ sym (least_append found (G x) (F (drop (i + 1) xs)))
    ∙ ap (least found) (sym (app x (drop (i + 1) xs)))
    ∙ ap (λ l. least found (F l)) (sym (first_left xs i x within is))

-- the same, where each is counted
pub each_turn : {X : Type 0} (f : ℕ → X → List Refusal) (found next : Option Refusal) (xs : List X) (i : ℕ) (x : X)
    → i < length xs → x ≡ get_or xs i x → next ≡ least found (f i x) → least next (of_each f (i + 1) (drop (i + 1) xs)) ≡ least found (of_each f i (drop i xs))
each_turn f found next xs i x within is e =
    ap (λ n. least n (of_each f (i + 1) (drop (i + 1) xs))) e
    ∙ sym (least_append found (f i x) (of_each f (i + 1) (drop (i + 1) xs)))
    ∙ ap (λ k. least found (f i x ++ of_each f k (drop (i + 1) xs))) (add-one i)
    ∙ ap (λ l. least found (of_each f i l)) (sym (first_left xs i x within is))
