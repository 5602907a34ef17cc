-- The arity of the last parameter is found from the first one on.
use Rattle.std.proofs.Common.{◌≡◌, Bool, false, List, [], ◌∷◌, refl}
use Rattle.jc_tree.specs.declared.statement.Formal.{Formal}
use Rattle.jc_declares.specs.Modifiers.{last_is_variable}
use Rattle.jc_modifiers.specs.LastFormal.{last_or}

behind : (b : Bool) (f : Formal) (fs : List Formal) → last_or b (f ∷ fs) ≡ last_is_variable (f ∷ fs)
behind b f [] = refl
behind b f (g ∷ fs) = behind f.variable_arity g fs

pub last_told : (fs : List Formal) → last_or false fs ≡ last_is_variable fs
last_told [] = refl
last_told (f ∷ fs) = behind false f fs
