-- The kinds of supertypes, told by what is seen of them.
use Rattle.std.proofs.Common.{◌≡◌, ℕ, [], ◌∷◌, Some, None, refl}
use Rattle.jc_declares.specs.declared.heads.Heads.{Heads}
use Rattle.jc_declares.specs.Looking.{Look, AClass, AVariable}
use Rattle.jc_declares.specs.HeadBreaks.{superclass_fits, interface_fits}
use Rattle.jc_looking.specs.Sights.{seen}
use Rattle.jc_name_rules.specs.Sighted.{superclass_seen, interface_seen}

pub superclass_told : (H : Heads) (c : ℕ) (look : Look) → superclass_seen H c (seen look) ≡ superclass_fits H c look
superclass_told H c None = refl
superclass_told H c (Some []) = refl
superclass_told H c (Some (AClass d ∷ [])) = refl
superclass_told H c (Some (AVariable v ∷ [])) = refl
superclass_told H c (Some (AClass d ∷ n ∷ ms)) = refl
superclass_told H c (Some (AVariable v ∷ n ∷ ms)) = refl

pub interface_told : (H : Heads) (c : ℕ) (look : Look) → interface_seen H c (seen look) ≡ interface_fits H c look
interface_told H c None = refl
interface_told H c (Some []) = refl
interface_told H c (Some (AClass d ∷ [])) = refl
interface_told H c (Some (AVariable v ∷ [])) = refl
interface_told H c (Some (AClass d ∷ n ∷ ms)) = refl
interface_told H c (Some (AVariable v ∷ n ∷ ms)) = refl
