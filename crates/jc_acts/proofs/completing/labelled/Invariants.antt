use Rattle.std.proofs.Common.{◌≡◌, length}
use Rattle.jc_acts.specs.Cases.{labelled}
use Rattle.jc_acts.proofs.completing.labelled.Given as goal

abbrev pub invariant-loop-rest : goal.invariant-loop-rest
invariant-loop-rest l = labelled l.n l.fn.cases ≡ labelled l.n l.rest

abbrev pub decreases-loop-rest : goal.decreases-loop-rest
decreases-loop-rest l = length l.rest
