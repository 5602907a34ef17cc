use Rattle.std.proofs.Common.{arith}
use Rattle.std.specs.Int.{int_wrap}
use Rattle.std.proofs.lemmas.Int.{to_z-of_z, ints}
use Rattle.jc_folding.proofs.spelling.low_unit.Goals as goal

pub returns : goal.returns
unfolding int_wrap
returns c = grind (arith, ints, to_z-of_z)
