-- Supertypes behind one another.
use Rattle.std.proofs.Common.{◌≡◌, List, [], ◌∷◌, ◌++◌, refl, ap}
use Rattle.jc_types.specs.declared.declarations.Written.{Written}
use Rattle.jc_types.specs.declared.declarations.WrittenTypes.{WrittenTypes}
use Rattle.jc_declares.specs.Making.{types}
use Rattle.jc_declared.specs.Types.{with_types}

with_first : Written → WrittenTypes → WrittenTypes
with_first w l = record { types = w.ty ∷ l.types; places = w.places ∷ l.places }

pub with_types-types : (ws more : List Written) → with_types (types ws) more ≡ types (ws ++ more)
unfolding with_types with_first
with_types-types [] more = refl
with_types-types (w ∷ ws) more = ap (with_first w) (with_types-types ws more)

pub with_types-none : (ws : List Written) → with_types (types []) ws ≡ types ws
with_types-none ws = with_types-types [] ws

pub ruleset joining = (with_types-types, with_types-none)
