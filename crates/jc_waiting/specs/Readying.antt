-- Which classes an instruction may act on (JVMS 5.5).
use Rattle.std.specs.Prelude.{Bool, true, false}
use Rattle.std.specs.declared.option.Option.{Option}
use Rattle.std.specs.declared.option.Option.TheVariants.{Some}
use Rattle.jc_jvm.specs.declared.world.ClassState.{ClassState}
use Rattle.jc_jvm.specs.declared.world.ClassState.TheVariants.{InProgress, Ready}

-- a class that needs no initialisation before an instruction acts on it
abbrev pub is_open : Option ClassState → Bool
is_open (Some Ready) = true
is_open (Some InProgress) = true
is_open _ = false
