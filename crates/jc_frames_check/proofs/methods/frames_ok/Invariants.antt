use Rattle.std.proofs.Common.{◌≡◌, ◌≤◌, ◌+◌, length}
use Rattle.jc_frames_check.specs.Frames.{methods_fault}
use Rattle.jc_frames_check.proofs.methods.frames_ok.Given as goal

-- the methods that are left tell it as all do
abbrev pub invariant-loop-rest : goal.invariant-loop-rest
invariant-loop-rest l = (methods_fault l.types l.class l.number l.rest ≡ methods_fault l.types l.class 0 l.class.methods) × (l.number + length l.rest ≤ length l.class.methods)

abbrev pub decreases-loop-rest : goal.decreases-loop-rest
decreases-loop-rest l = length l.rest
