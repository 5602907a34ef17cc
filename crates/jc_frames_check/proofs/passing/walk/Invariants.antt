use Rattle.std.proofs.Common.{◌≡◌, length, map, Some}
use Rattle.jc_frames_steps.specs.Placed.{array_made}
use Rattle.jc_frames_check.specs.Frames.{code_fault}
use Rattle.jc_frames_check.specs.Told.{coming}
use Rattle.jc_frames_check.proofs.passing.walk.Given as goal

-- from here on the code tells it as all does
abbrev pub invariant-loop-rest : goal.invariant-loop-rest
invariant-loop-rest l = (l.names ≡ map array_made l.rest) × (code_fault l.e l.frames l.at (coming l.comes l.state) l.rest ≡ code_fault l.e l.e.code.frames 0 (Some l.initial.state) l.e.code.ins)

abbrev pub decreases-loop-rest : goal.decreases-loop-rest
decreases-loop-rest l = length l.rest
