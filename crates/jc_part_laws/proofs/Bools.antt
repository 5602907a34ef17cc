-- Tests of parts together.
use Rattle.std.proofs.Common.{◌≡◌, Bool, arith}
use Rattle.std.specs.Prelude.{◌&&◌}
use Rattle.std.proofs.lemmas.Grind.{common_steps}

pub swap_four : (a b c d : Bool) → ((a && b) && (c && d)) ≡ ((a && c) && (b && d))
swap_four a b c d = grind (arith, common_steps)
