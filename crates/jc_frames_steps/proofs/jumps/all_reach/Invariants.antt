use Rattle.std.proofs.Common.{◌≡◌, length}
use Rattle.jc_frames_steps.specs.Rules.{cases_reach}
use Rattle.jc_frames_steps.proofs.jumps.all_reach.Given as goal

-- what is left tells it as all do
abbrev pub invariant-loop-rest : goal.invariant-loop-rest
invariant-loop-rest l = cases_reach l.e l.state l.rest ≡ cases_reach l.e l.state l.cases

abbrev pub decreases-loop-rest : goal.decreases-loop-rest
decreases-loop-rest l = length l.rest
