use Rattle.std.proofs.Common.{◌≡◌, length}
use Rattle.jc_acts.specs.Cases.{default_in}
use Rattle.jc_acts.proofs.completing.default_in.Given as goal

abbrev pub invariant-loop-rest : goal.invariant-loop-rest
invariant-loop-rest l = default_in l.fn.cases ≡ default_in l.rest

abbrev pub decreases-loop-rest : goal.decreases-loop-rest
decreases-loop-rest l = length l.rest
