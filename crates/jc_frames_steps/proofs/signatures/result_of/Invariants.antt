use Rattle.std.proofs.Common.{◌≡◌, length}
use Rattle.jc_jvm.specs.Types.{behind_parameters}
use Rattle.jc_frames_steps.proofs.signatures.result_of.Given as goal

-- what is left tells it as all does
abbrev pub invariant-loop-rest : goal.invariant-loop-rest
invariant-loop-rest l = behind_parameters l.rest ≡ behind_parameters l.descriptor

abbrev pub decreases-loop-rest : goal.decreases-loop-rest
decreases-loop-rest l = length l.rest
