-- One turn of a loop over what is numbered.
use Rattle.std.proofs.Common.{◌≡◌, ◌+◌, ◌<◌, ℕ, List, [], ◌∷◌, ◌++◌, drop, length, get_or, add-one, append_assoc, sym, ap, ◌∙◌}
use Rattle.jc_declares.specs.Making.{numbered}
use Rattle.jc_written.proofs.Counting.{first_left}

pub numbered_turn : {X Y : Type 0} (f : ℕ → X → Y) (old new : List Y) (xs : List X) (i : ℕ) (x : X) → i < length xs → x ≡ get_or xs i x → new ≡ old ++ f i x ∷ []
    → new ++ numbered f (i + 1) (drop (i + 1) xs) ≡ old ++ numbered f i (drop i xs)
numbered_turn f old new xs i x within is made =
    ap (λ l. l ++ numbered f (i + 1) (drop (i + 1) xs)) made
    ∙ append_assoc old (f i x ∷ []) (numbered f (i + 1) (drop (i + 1) xs))
    ∙ ap (λ k. old ++ f i x ∷ numbered f k (drop (i + 1) xs)) (add-one i)
    ∙ ap (λ l. old ++ numbered f i l) (sym (first_left xs i x within is))

-- where each adds some
pub added_turn : {X Y : Type 0} (F : List X → List Y) (G : X → List Y) → ((x : X) (xs : List X) → F (x ∷ xs) ≡ G x ++ F xs) → (old new : List Y) (xs : List X) (i : ℕ) (x : X)
    → i < length xs → x ≡ get_or xs i x → new ≡ old ++ G x → new ++ F (drop (i + 1) xs) ≡ old ++ F (drop i xs)
added_turn F G app old new xs i x within is made =
    ap (λ l. l ++ F (drop (i + 1) xs)) made
    ∙ append_assoc old (G x) (F (drop (i + 1) xs))
    ∙ ap (λ l. old ++ l) (sym (app x (drop (i + 1) xs)))
    ∙ ap (λ l. old ++ F l) (sym (first_left xs i x within is))
