use Rattle.std.proofs.Common.{◌≡◌}
use Rattle.jc_typed.specs.Parts.{ops_of}
use Rattle.jc_meaning.specs.Expressions as e
use Rattle.jc_values.specs.Idle.{idle}
use Rattle.jc_acts.proofs.operands.prefixes.Given as goal

abbrev pub invariant-loop-before : goal.invariant-loop-before
invariant-loop-before l = e.prefixes l.program idle (ops_of l.nodes l.fn.ops) l.fn.v l.fn.run.units l.fn.run.state ≡ e.prefixes l.program idle (ops_of l.nodes l.list) l.value l.run.units l.run.state

abbrev pub decreases-loop-before : goal.decreases-loop-before
decreases-loop-before l = l.list
