use Rattle.std.proofs.Common.{◌≡◌, ◌++◌, length}
use Rattle.jc_frames_steps.specs.Placed.{frame_places}
use Rattle.jc_frames_steps.proofs.places.places_of_frames.Given as goal

-- the places so far, and those of what is left
abbrev pub invariant-loop-rest : goal.invariant-loop-rest
invariant-loop-rest l = l.list.items ++ frame_places l.rest ≡ frame_places l.frames

abbrev pub decreases-loop-rest : goal.decreases-loop-rest
decreases-loop-rest l = length l.rest
