use Rattle.std.proofs.Common.{◌≡◌, length}
use Rattle.jc_frames_check.specs.Frames.{are_satisfied}
use Rattle.jc_frames_check.proofs.handlers.are_satisfied.Given as goal

-- what is left tells it as all do
abbrev pub invariant-loop-rest : goal.invariant-loop-rest
invariant-loop-rest l = are_satisfied l.e l.at l.state l.rest ≡ are_satisfied l.e l.at l.state l.handlers

abbrev pub decreases-loop-rest : goal.decreases-loop-rest
decreases-loop-rest l = length l.rest
