-- Whether a length is on top.
use Rattle.std.specs.Prelude.{Bool, true, false, List, ◌∷◌}
use Rattle.jc_jvm.specs.declared.value.Value.{Value}
use Rattle.jc_jvm.specs.declared.value.Value.TheVariants.{Whole}

-- the topmost value is an int, negative or not
abbrev pub has_length : List Value → Bool
has_length (Whole n ∷ rest) = true
has_length _ = false
