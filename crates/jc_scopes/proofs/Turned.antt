-- One turn of a loop over what is numbered.
use Rattle.std.proofs.Common.{◌≡◌, ◌+◌, ◌<◌, ℕ, zero, suc, List, [], ◌∷◌, ◌++◌, drop, length, add-one, append_assoc, refl, sym, ap, ◌∙◌, arith}
use Rattle.jc_declares.specs.declared.heads.ClassHead.{ClassHead}
use Rattle.jc_declares.specs.declared.heads.Heads.{Heads}
use Rattle.jc_declares.specs.Heads.{Named, binary_of}
use Rattle.jc_declares.specs.Making.{numbered, first_names, binaries_from}
use Rattle.jc_scopes.specs.Entries.{with_entry}

pub numbered_turn : {X Y : Type 0} (f : ℕ → X → Y) (old new : List Y) (xs : List X) (i : ℕ) (x : X) → drop i xs ≡ x ∷ drop (suc i) xs → new ≡ old ++ f i x ∷ []
    → new ++ numbered f (i + 1) (drop (i + 1) xs) ≡ old ++ numbered f i (drop i xs)
numbered_turn f old new xs i x e made =
    ap (λ k. new ++ numbered f k (drop k xs)) (add-one i)
    ∙ ap (λ l. l ++ numbered f (suc i) (drop (suc i) xs)) made
    ∙ append_assoc old (f i x ∷ []) (numbered f (suc i) (drop (suc i) xs))
    ∙ ap (λ l. old ++ numbered f i l) (sym e)

-- what is left of a list has a first element
left_of : {X : Type 0} (xs : List X) (i : ℕ) → i < length xs → (x : X) × (drop i xs ≡ x ∷ drop (suc i) xs)
left_of [] i l = absurd (omega arith)
left_of (x ∷ xs) zero l = (x, refl)
left_of (x ∷ xs) (suc i) l = left_of xs i (omega arith)

pub binaries_turn : (H : Heads) (names new : Named) (cs : List ClassHead) (i : ℕ) → i < length cs → new ≡ with_entry (binary_of H i) i names
    → first_names new (binaries_from H (i + 1) (drop (i + 1) cs)) ≡ first_names names (binaries_from H i (drop i cs))
binaries_turn H names new cs i l made =
    let left : (x : ClassHead) × (drop i cs ≡ x ∷ drop (suc i) cs) = left_of cs i l in
    ap (λ k. first_names new (binaries_from H k (drop k cs))) (add-one i)
    ∙ ap (λ (n : Named). first_names n (binaries_from H (suc i) (drop (suc i) cs))) made
    ∙ ap (λ (l : List ClassHead). first_names names (binaries_from H i l)) (sym left.1)
