-- A space without a name behind spaces.
use Rattle.std.proofs.Common.{◌≡◌, ◌≤◌, ◌-◌, ◌++◌, ℕ, suc, List, [], ◌∷◌, length, replicate, append_assoc, sym, ap, ◌∙◌, arith}
use Rattle.std.proofs.lemmas.Grind.{common_steps}
use Rattle.jc_name_index.specs.Spaces.{Named, padded}

abbrev nothing : Named
nothing = []

pub padded_push : (s : ℕ) (T : List Named) (x : Named) → x ≡ [] → length T ≤ s → padded s (T ++ x ∷ []) ≡ padded s T
padded_push s T x e h =
    let a : length (T ++ x ∷ []) ≡ suc (length T) = grind (arith, common_steps) in
    let b : suc s - length (T ++ x ∷ []) ≡ s - length T = omega arith in
    let d : suc s - length T ≡ suc (s - length T) = omega arith in
    ap (λ k. (T ++ x ∷ []) ++ replicate k nothing) b ∙ ap (λ y. (T ++ y ∷ []) ++ replicate (s - length T) nothing) e
    ∙ append_assoc T (nothing ∷ []) (replicate (s - length T) nothing) ∙ sym (ap (λ k. T ++ replicate k nothing) d)
