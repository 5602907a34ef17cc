-- Whether one of several holds.
use Rattle.std.proofs.Common.{◌≡◌, refl, Bool, true, false, ◌||◌}

pub or_false : (b : Bool) → b || false ≡ b
or_false true = refl
or_false false = refl
