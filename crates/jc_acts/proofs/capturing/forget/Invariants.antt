use Rattle.std.proofs.Common.{◌≡◌}
use Rattle.jc_meaning.specs.Expressions as e
use Rattle.jc_values.specs.Idle.{idle}
use Rattle.jc_acts.proofs.capturing.forget.Given as goal

abbrev pub invariant-loop-left : goal.invariant-loop-left
invariant-loop-left l = e.forget l.program idle l.fn.from l.fn.count l.fn.run.units l.fn.run.state ≡ e.forget l.program idle l.at l.left l.run.units l.run.state

abbrev pub decreases-loop-left : goal.decreases-loop-left
decreases-loop-left l = l.left
