-- The type to which a value is assigned stays where the arena grows.
use Rattle.std.proofs.Common.{refl, Some, None}
use Rattle.jc_typed.proofs.Growing.{within}
use Rattle.jc_exprs_starts.specs.Wanted.{WantedStays, WantedStaysBelow}

pub wanted_stays : WantedStays
wanted_stays ms ns None g b = refl
wanted_stays ms ns (Some at) g b = rw (g.kept at b) refl

pub wanted_within : WantedStaysBelow
wanted_within ms ns None g b = tt
wanted_within ms ns (Some at) g b = within ms ns at g b

pub ruleset wanted = (wanted_stays, wanted_within)
