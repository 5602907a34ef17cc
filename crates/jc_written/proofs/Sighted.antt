-- What the meaning of a name breaks, told by what is seen of it.
use Rattle.std.proofs.Common.{◌≡◌, ℕ, Bool, Some, None, [], ◌∷◌, refl}
use Rattle.jc_declares.specs.declared.heads.Heads.{Heads}
use Rattle.jc_declares.specs.Looking.{Look, AClass, AVariable}
use Rattle.jc_declares.specs.Writing.{Reading, meaning_broken}
use Rattle.jc_looking.specs.Sights.{seen}
use Rattle.jc_written.specs.Trees.{sight_rules}

pub sight_told : (H : Heads) (r : Reading) (look : Look) (without_args : Bool) (at : ℕ) → sight_rules H r.own (seen look) without_args at ≡ meaning_broken H r look without_args at
sight_told H r None w at = refl
sight_told H r (Some []) w at = refl
sight_told H r (Some (AClass c ∷ [])) w at = refl
sight_told H r (Some (AVariable v ∷ [])) w at = refl
sight_told H r (Some (AClass c ∷ n ∷ ms)) w at = refl
sight_told H r (Some (AVariable v ∷ n ∷ ms)) w at = refl
