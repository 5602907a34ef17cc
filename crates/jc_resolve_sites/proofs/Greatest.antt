-- The greatest of some numbers, one after another.
use Rattle.std.proofs.Common.{◌≡◌, ℕ, zero, suc, ◌+◌, ◌<◌, max, List, [], ◌∷◌, length, map, take, get_or, arith, ap, ◌∙◌, refl}
use Rattle.jc_types.specs.declared.form.Ty.{Ty}
use Rattle.jc_resolve_sites.specs.Above.{above, above_all, greatest}

pub all_mapped : (ts : List Ty) → greatest (map above ts) ≡ above_all ts
all_mapped [] = refl
all_mapped (t ∷ ts) = ap (max (above t)) (all_mapped ts)

max_joined : (a b c : ℕ) → max (max a b) c ≡ max a (max b c)
max_joined a b c = omega arith

max_zero : (a : ℕ) → max 0 a ≡ max a 0
max_zero a = omega arith

next : {A : Type 0} (f : A → ℕ) (xs : List A) (i : ℕ) (x : A) → i < length xs → x ≡ get_or xs i x → max (greatest (map f (take i xs))) (f x) ≡ greatest (map f (take (suc i) xs))
next f [] i x lt e = absurd (omega arith)
next f (y ∷ xs) zero x lt e = ap (λ n. max 0 n) (ap f e) ∙ max_zero (f y)
next f (y ∷ xs) (suc i) x lt e = max_joined (f y) (greatest (map f (take i xs))) (f x) ∙ ap (max (f y)) (next f xs i x (omega arith) e)

-- one more
pub one_more : {A : Type 0} (f : A → ℕ) (xs : List A) (i : ℕ) (x : A) (most : ℕ) → i < length xs → x ≡ get_or xs i x → most ≡ greatest (map f (take i xs)) → max most (f x) ≡ greatest (map f (take (i + 1) xs))
one_more f xs i x most lt e h =
    ap (λ n. max n (f x)) h ∙ next f xs i x lt e ∙ ap (λ n. greatest (map f (take n xs))) (let next : suc i ≡ i + 1 = omega arith in next)
