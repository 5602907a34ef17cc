use Rattle.std.proofs.Common.{◌≡◌, ◌++◌, length}
use Rattle.jc_entering.specs.Checked.{overridden}
use Rattle.jc_entering.proofs.overridden.overridden_of.Given as goal

abbrev pub invariant-loop-rest : goal.invariant-loop-rest
invariant-loop-rest l = l.out ++ overridden l.by.table.now l.by.method l.rest ≡ overridden l.by.table.now l.by.method l.fn.ids

abbrev pub decreases-loop-rest : goal.decreases-loop-rest
decreases-loop-rest l = length l.rest
