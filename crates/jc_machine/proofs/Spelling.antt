-- The name of the class Main is spelled by class files as it is.
use Rattle.std.proofs.Common.{◌≡◌, refl}
use Rattle.std.specs.Prelude.{codes}
use Rattle.std.specs.Str.{chars}
use Rattle.jc_machine.specs.Names.{spelling}

pub main_spelled : spelling (codes "Main") ≡ codes "Main"
unfolding chars
main_spelled = refl
