use Rattle.std.proofs.Common.{◌≡◌, length}
use Rattle.jc_typed.specs.Parts.{captures_of}
use Rattle.jc_meaning.specs.Expressions as e
use Rattle.jc_values.specs.Idle.{idle}
use Rattle.jc_acts.proofs.capturing.capture.Given as goal

abbrev pub invariant-loop-rest : goal.invariant-loop-rest
invariant-loop-rest l = e.capture l.program idle l.v (captures_of l.nodes l.at) l.fn.run.units l.fn.run.state ≡ e.capture l.program idle l.v l.rest l.run.units l.run.state

abbrev pub decreases-loop-rest : goal.decreases-loop-rest
decreases-loop-rest l = length l.rest
