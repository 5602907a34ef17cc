use Rattle.std.proofs.Common.{◌≡◌, ◌++◌, length}
use Rattle.jc_frames_steps.specs.Placed.{starts_from}
use Rattle.jc_frames_steps.proofs.places.starts_of.Given as goal

-- the places so far, and those of what is left
abbrev pub invariant-loop-rest : goal.invariant-loop-rest
invariant-loop-rest l = l.list.items ++ starts_from l.at l.rest ≡ starts_from 0 l.ins

abbrev pub decreases-loop-rest : goal.decreases-loop-rest
decreases-loop-rest l = length l.rest
