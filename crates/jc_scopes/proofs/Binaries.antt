-- The parts of a binary name.
use Rattle.std.proofs.Common.{◌≡◌, ℕ, List, [], ◌∷◌, ◌++◌, append_assoc, refl, ap, ◌∙◌}
use Rattle.std.specs.Prelude.{codes}
use Rattle.jc_declares.specs.Heads.{in_package}
use Rattle.jc_scopes.specs.Entries.{with_point}

joined : (p round name : List ℕ) → (with_point p ++ round) ++ name ≡ in_package p (round ++ name)
joined [] round name = refl
joined (b ∷ p) round name = append_assoc ((b ∷ p) ++ codes ".") round name

pub binary_told : (p round name a b c d : List ℕ) → a ≡ [] → b ≡ a ++ with_point p → c ≡ b ++ round → d ≡ c ++ name → d ≡ in_package p (round ++ name)
binary_told p round name a b c d ea eb ec ed =
    ed ∙ ap (λ (x : List ℕ). x ++ name) (ec ∙ ap (λ (x : List ℕ). x ++ round) (eb ∙ ap (λ (x : List ℕ). x ++ with_point p) ea)) ∙ joined p round name
