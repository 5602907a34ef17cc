-- The least of breaks that follow one another.
use Rattle.std.proofs.Common.{◌≡◌, ◌+◌, ◌-◌, ◌<◌, ◌≤◌, ℕ, zero, suc, take, arith, Option, List, [], ◌∷◌, ◌++◌, drop, length, get_or, add-one, drop-cons, refl, sym, ap, ◌∙◌}
use Rattle.jc_types.specs.Breaks.{least}
use Rattle.jc_types.proofs.Least.{least_append}
use Rattle.jc_rules.specs.declared.rule.Refusal.{Refusal}
use Rattle.jc_header_rules.specs.Places.{of_each}

pub two : (x y : List Refusal) (a b c : Option Refusal) → b ≡ least a x → c ≡ least b y → c ≡ least a (x ++ y)
two x y a b c e f = f ∙ ap (λ k. least k y) e ∙ sym (least_append a x y)

pub three : (x y z : List Refusal) (a b c d : Option Refusal) → b ≡ least a x → c ≡ least b y → d ≡ least c z → d ≡ least a (x ++ y ++ z)
three x y z a b c d e f g = two (x ++ y) z a c d (two x y a b c e f) g

pub four : (x y z v : List Refusal) (a b c d e : Option Refusal) → b ≡ least a x → c ≡ least b y → d ≡ least c z → e ≡ least d v → e ≡ least a (x ++ y ++ z ++ v)
four x y z v a b c d e f g h i = two (x ++ y ++ z) v a d e (three x y z a b c d f g h) i

first_left : {X : Type 0} (xs : List X) (i : ℕ) (x : X) → i < length xs → x ≡ get_or xs i x → drop i xs ≡ x ∷ drop (i + 1) xs
first_left xs i x within is = drop-cons xs i x within ∙ ap (λ y. y ∷ drop (suc i) xs) (sym is) ∙ ap (λ k. x ∷ drop k xs) (sym (add-one i))

-- a loop over all, each counted
pub each_turn : {X : Type 0} (f : ℕ → X → List Refusal) (found next : Option Refusal) (xs : List X) (i : ℕ) (x : X)
    → i < length xs → x ≡ get_or xs i x → next ≡ least found (f i x) → least next (of_each f (i + 1) (drop (i + 1) xs)) ≡ least found (of_each f i (drop i xs))
each_turn f found next xs i x within is e =
    ap (λ n. least n (of_each f (i + 1) (drop (i + 1) xs))) e
    ∙ sym (least_append found (f i x) (of_each f (i + 1) (drop (i + 1) xs)))
    ∙ ap (λ k. least found (f i x ++ of_each f k (drop (i + 1) xs))) (add-one i)
    ∙ ap (λ l. least found (of_each f i l)) (sym (first_left xs i x within is))

take_whole : {X : Type 0} (xs : List X) (n : ℕ) → n ≡ length xs → take n xs ≡ xs
take_whole [] zero e = refl
take_whole [] (suc n) e = absurd (omega arith)
take_whole (x ∷ xs) zero e = absurd (omega arith)
take_whole (x ∷ xs) (suc n) e = ap (λ ys. x ∷ ys) (take_whole xs n (omega arith))

-- what a slice pattern leaves behind its first element
pub left_over : {X : Type 0} (xs : List X) (x d : X) → 1 ≤ length xs → x ≡ get_or xs 0 d → xs ≡ x ∷ take (length xs - 1) (drop 1 xs)
left_over [] x d le e = absurd (omega arith)
left_over (y ∷ ys) x d le e = let n : length (y ∷ ys) - 1 ≡ length ys = omega arith in ap (λ z. z ∷ ys) (sym e) ∙ ap (λ zs. x ∷ zs) (sym (take_whole ys (length (y ∷ ys) - 1) n))

-- a loop over a list by a slice pattern
pub one_turn : {X : Type 0} (F : List X → List Refusal) (g : X → List Refusal) → ((x : X) (xs : List X) → F (x ∷ xs) ≡ g x ++ F xs)
    → (found next : Option Refusal) (xs : List X) (x d : X) → 1 ≤ length xs → x ≡ get_or xs 0 d → next ≡ least found (g x) → least next (F (take (length xs - 1) (drop 1 xs))) ≡ least found (F xs)
one_turn F g app found next xs x d le is e =
    ap (λ n. least n (F (take (length xs - 1) (drop 1 xs)))) e ∙ sym (least_append found (g x) (F (take (length xs - 1) (drop 1 xs)))) ∙ ap (least found) (sym (app x (take (length xs - 1) (drop 1 xs))))
    ∙ ap (λ ys. least found (F ys)) (sym (left_over xs x d le is))

-- .. and over two lists side by side
pub both_turn : {X Y : Type 0} (F : List X → List Y → List Refusal) (g : X → Y → List Refusal) → ((x : X) (xs : List X) (y : Y) (ys : List Y) → F (x ∷ xs) (y ∷ ys) ≡ g x y ++ F xs ys)
    → (found next : Option Refusal) (xs : List X) (ys : List Y) (x d : X) (y e : Y) → 1 ≤ length xs → 1 ≤ length ys → x ≡ get_or xs 0 d → y ≡ get_or ys 0 e → next ≡ least found (g x y)
    → least next (F (take (length xs - 1) (drop 1 xs)) (take (length ys - 1) (drop 1 ys))) ≡ least found (F xs ys)
both_turn F g app found next xs ys x d y e le l is at f =
    ap (λ n. least n (F (take (length xs - 1) (drop 1 xs)) (take (length ys - 1) (drop 1 ys)))) f
    ∙ sym (least_append found (g x y) (F (take (length xs - 1) (drop 1 xs)) (take (length ys - 1) (drop 1 ys))))
    ∙ ap (least found) (sym (app x (take (length xs - 1) (drop 1 xs)) y (take (length ys - 1) (drop 1 ys))))
    ∙ ap (λ zs. least found (F zs (y ∷ take (length ys - 1) (drop 1 ys)))) (sym (left_over xs x d le is)) ∙ ap (λ zs. least found (F xs zs)) (sym (left_over ys y e l at))

pub ruleset turning = (least_append)
