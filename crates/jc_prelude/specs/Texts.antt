-- The texts of the library.
use Rattle.std.specs.Prelude.{ℕ, List, [], ◌∷◌}
use Rattle.jc_prelude.specs.declared.collections.TheConstants.{COLLECTIONS}
use Rattle.jc_prelude.specs.declared.lang.TheConstants.{LANG}
use Rattle.jc_prelude.specs.declared.streams.TheConstants.{STREAMS}
use Rattle.jc_prelude.specs.declared.thrown.TheConstants.{THROWN}

-- the bytes of each text, in order
unfoldable pub texts : List (List ℕ)
texts = LANG.now ∷ THROWN.now ∷ STREAMS.now ∷ COLLECTIONS.now ∷ []
