use Rattle.std.proofs.Common.{length}
use Rattle.jc_components.specs.Reach.{Filled}
use Rattle.jc_components.proofs.searching.add_all.Given as goal

abbrev pub invariant-loop-rest : goal.invariant-loop-rest
invariant-loop-rest l = Filled l.xs l.rest l.initial.marks.items l.marks.items l.initial.reached.items l.reached.items

abbrev pub decreases-loop-rest : goal.decreases-loop-rest
decreases-loop-rest l = length l.rest
