use Rattle.std.proofs.Common.{◌≡◌, ◌++◌, length, map}
use Rattle.jc_frames_steps.specs.Placed.{array_made}
use Rattle.jc_frames_steps.proofs.places.array_names.Given as goal

-- the names so far, and those of what is left
abbrev pub invariant-loop-rest : goal.invariant-loop-rest
invariant-loop-rest l = l.names ++ map array_made l.rest ≡ map array_made l.ins

abbrev pub decreases-loop-rest : goal.decreases-loop-rest
decreases-loop-rest l = length l.rest
