use Rattle.std.proofs.Common.{◌≡◌, ◌≤◌, ◌+◌, length}
use Rattle.jc_frames_steps.specs.Rules.{last_slash}
use Rattle.jc_frames_steps.proofs.guards.last_slash.Given as goal

-- what is left tells it as all does
abbrev pub invariant-loop-rest : goal.invariant-loop-rest
invariant-loop-rest l = (last_slash l.at l.end l.rest ≡ last_slash 0 0 l.name) × (l.at + length l.rest ≤ length l.name) × (l.end ≤ l.at)

abbrev pub decreases-loop-rest : goal.decreases-loop-rest
decreases-loop-rest l = length l.rest
