use Rattle.std.proofs.Common.{◌≡◌, length}
use Rattle.jc_flow.specs.Marks.{marked}
use Rattle.jc_flow.proofs.numbers.mark_all.Given as goal

abbrev pub invariant-loop-rest : goal.invariant-loop-rest
invariant-loop-rest l = marked l.marks.items l.rest ≡ marked l.fn.marks.items l.list

abbrev pub decreases-loop-rest : goal.decreases-loop-rest
decreases-loop-rest l = length l.rest
