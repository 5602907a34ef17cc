-- Which classes are gathered.
use Rattle.std.proofs.Common.{◌≡◌, ℕ, Bool, true, false, List, [], ◌∷◌, ◌++◌, nat_eq, refl, sym, ap, ◌∙◌, arith}
use Rattle.std.proofs.lemmas.Grind.{common_steps}
use Rattle.std.specs.Prelude.{◌||◌, ◌==◌}
use Rattle.jc_rules.proofs.Truths.{equal_numbers, or_none, or_true}
use Rattle.jc_declares.specs.Heads.{Named}
use Rattle.jc_declares.specs.Knowing.{has_class}

or_assoc : (a b c : Bool) → (a || (b || c)) ≡ ((a || b) || c)
or_assoc true b c = refl
or_assoc false b c = refl

pub class_pushed : (q : ℕ) (es : Named) (n : List ℕ) (c : ℕ) → has_class q (es ++ (n, c) ∷ []) ≡ (has_class q es || (q == c))
class_pushed q [] n c = or_none (q == c)
class_pushed q (e ∷ es) n c = ap (λ b. (q == e.1) || b) (class_pushed q es n c) ∙ or_assoc (q == e.1) (has_class q es) (q == c)

other_numbers : (q c : ℕ) → (q == c) ≡ false → nat_eq c q ≡ false
other_numbers q c e = grind (arith, common_steps)

-- a set with one more number
pub put_in : (b : Bool) (q c : ℕ) (old new : ℕ → Bool) (h : Bool) → (q == c) ≡ b → new c ≡ true → ((p : ℕ) → nat_eq c p ≡ false → new p ≡ old p) → old q ≡ h → new q ≡ (h || b)
put_in true q c old new h e t f o = ap new (equal_numbers q c e) ∙ t ∙ sym (or_true h)
put_in false q c old new h e t f o = f q (other_numbers q c e) ∙ o ∙ sym (or_none h)
