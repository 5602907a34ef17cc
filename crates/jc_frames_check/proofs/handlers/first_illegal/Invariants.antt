use Rattle.std.proofs.Common.{◌≡◌, length}
use Rattle.jc_frames_check.specs.Frames.{first_illegal}
use Rattle.jc_frames_check.proofs.handlers.first_illegal.Given as goal

-- what is left tells it as all do
abbrev pub invariant-loop-rest : goal.invariant-loop-rest
invariant-loop-rest l = first_illegal l.e l.rest ≡ first_illegal l.e l.handlers

abbrev pub decreases-loop-rest : goal.decreases-loop-rest
decreases-loop-rest l = length l.rest
