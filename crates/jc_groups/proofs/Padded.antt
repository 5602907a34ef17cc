-- An empty group behind groups.
use Rattle.std.proofs.Common.{◌≡◌, ◌≤◌, ◌-◌, ◌++◌, ℕ, suc, List, [], ◌∷◌, length, replicate, append_assoc, sym, ap, ◌∙◌, arith}
use Rattle.std.proofs.lemmas.Grind.{common_steps}
use Rattle.jc_groups.specs.Groups.{padded}

abbrev nothing : List ℕ
nothing = []

pub padded_push : (g : ℕ) (T : List (List ℕ)) (x : List ℕ) → x ≡ [] → length T ≤ g → padded g (T ++ x ∷ []) ≡ padded g T
padded_push g T x e h =
    let a : length (T ++ x ∷ []) ≡ suc (length T) = grind (arith, common_steps) in
    let b : suc g - length (T ++ x ∷ []) ≡ g - length T = omega arith in
    let d : suc g - length T ≡ suc (g - length T) = omega arith in
    ap (λ k. (T ++ x ∷ []) ++ replicate k nothing) b ∙ ap (λ y. (T ++ y ∷ []) ++ replicate (g - length T) nothing) e
    ∙ append_assoc T (nothing ∷ []) (replicate (g - length T) nothing) ∙ sym (ap (λ k. T ++ replicate k nothing) d)
