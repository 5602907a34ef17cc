use Rattle.std.proofs.Common.{◌≡◌, ◌+◌, ◌*◌, length}
use Rattle.jc_meaning.specs.Expressions as e
use Rattle.jc_values.specs.Idle.{idle}
use Rattle.jc_acts.proofs.making.+arrays.Given as goal

abbrev pub decreases-arrays : goal.decreases-arrays
decreases-arrays l = 4 * length l.lengths.now

abbrev pub decreases-arrays_of : goal.decreases-arrays_of
decreases-arrays_of l = 4 * length l.more.now + 3

abbrev pub decreases-rows : goal.decreases-rows
decreases-rows l = 4 * length l.more.now + 2

abbrev pub decreases-fill : goal.decreases-fill
decreases-fill l = 4 * length l.lengths.now + 1

abbrev pub invariant-fill-loop-left : goal.invariant-fill-loop-left
invariant-fill-loop-left l = (e.fill l.program idle l.a 0 l.fn.count (e.arrays l.program idle l.of l.lengths) l.fn.run.units l.fn.run.state ≡ e.fill l.program idle l.a l.at l.left (e.arrays l.program idle l.of l.lengths) l.run.units l.run.state) × (l.at + l.left ≡ l.fn.count)

abbrev pub decreases-fill-loop-left : goal.decreases-fill-loop-left
decreases-fill-loop-left l = l.left
