-- The least of breaks that follow one another, as a loop over a list finds it.
use Rattle.std.proofs.Common.{◌≡◌, ◌-◌, ◌≤◌, ℕ, zero, suc, take, arith, Option, List, [], ◌∷◌, ◌++◌, drop, length, get_or, refl, sym, ap, ◌∙◌}
use Rattle.jc_types.specs.Breaks.{least}
use Rattle.jc_types.proofs.Least.{least_append}
use Rattle.jc_rules.specs.declared.rule.Refusal.{Refusal}

take_whole : {X : Type 0} (xs : List X) (n : ℕ) → n ≡ length xs → take n xs ≡ xs
take_whole [] zero e = refl
take_whole [] (suc n) e = absurd (omega arith)
take_whole (x ∷ xs) zero e = absurd (omega arith)
take_whole (x ∷ xs) (suc n) e = ap (λ ys. x ∷ ys) (take_whole xs n (omega arith))

-- what a slice pattern leaves behind its first element
left_over : {X : Type 0} (xs : List X) (x d : X) → 1 ≤ length xs → x ≡ get_or xs 0 d → xs ≡ x ∷ take (length xs - 1) (drop 1 xs)
left_over [] x d le e = absurd (omega arith)
left_over (y ∷ ys) x d le e =
    let n : length (y ∷ ys) - 1 ≡ length ys = omega arith in
    ap (λ z. z ∷ ys) (sym e) ∙ ap (λ zs. x ∷ zs) (sym (take_whole ys (length (y ∷ ys) - 1) n))

-- what is broken at an element may depend on those behind it
pub rest_turn : {X : Type 0} (F : List X → List Refusal) (g : X → List X → List Refusal) → ((x : X) (xs : List X) → F (x ∷ xs) ≡ g x xs ++ F xs)
    → (found next : Option Refusal) (xs : List X) (x d : X) → 1 ≤ length xs → x ≡ get_or xs 0 d → next ≡ least found (g x (take (length xs - 1) (drop 1 xs)))
    → least next (F (take (length xs - 1) (drop 1 xs))) ≡ least found (F xs)
rest_turn F g app found next xs x d le is e =
    let rest = take (length xs - 1) (drop 1 xs) in
    ap (λ n. least n (F rest)) e ∙ sym (least_append found (g x rest) (F rest)) ∙ ap (least found) (sym (app x rest)) ∙ ap (λ ys. least found (F ys)) (sym (left_over xs x d le is))
