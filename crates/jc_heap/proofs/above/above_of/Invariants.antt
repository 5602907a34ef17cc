use Rattle.std.proofs.Common.{◌-◌, length}
use Rattle.jc_heap.specs.Above.{Searching}
use Rattle.jc_heap.proofs.above.above_of.Given as goal

-- what was found so far, and what was looked at
abbrev pub invariant-upward : goal.invariant-upward
invariant-upward l = Searching l.supers l.class l.marks.items l.found.items l.at

abbrev pub decreases-upward : goal.decreases-upward
decreases-upward l = length l.supers - l.at
