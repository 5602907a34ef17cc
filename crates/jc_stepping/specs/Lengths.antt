-- Values as lengths of arrays.
use Rattle.std.specs.Prelude.{Bool, true, false}
use Rattle.jc_jvm.specs.declared.value.Value.{Value}
use Rattle.jc_jvm.specs.declared.value.Value.TheVariants.{Whole}
use Rattle.jc_stepping.specs.Makes.{is_natural}

-- an int is taken as a length, also a negative one, which throws then (JVMS 6.5, newarray)
abbrev pub is_length : Value → Bool
is_length (Whole n) = true
is_length _ = false

-- an int that isn't negative
abbrev pub is_natural_length : Value → Bool
is_natural_length (Whole n) = is_natural n
is_natural_length _ = false
