use Rattle.std.proofs.Common.{◌≡◌, length, None}
use Rattle.jc_frames_steps.specs.Rules.{keys_ascend}
use Rattle.jc_frames_steps.proofs.jumps.are_ascending.Given as goal

-- what is left tells it as all do
abbrev pub invariant-loop-rest : goal.invariant-loop-rest
invariant-loop-rest l = keys_ascend l.before l.rest ≡ keys_ascend None l.cases

abbrev pub decreases-loop-rest : goal.decreases-loop-rest
decreases-loop-rest l = length l.rest
