use Rattle.std.proofs.Common.{◌≡◌, None, length}
use Rattle.jc_types.specs.Breaks.{least}
use Rattle.jc_flow.proofs.methods.least.Given as goal

abbrev pub invariant-loop-rest : goal.invariant-loop-rest
invariant-loop-rest l = least l.found l.rest ≡ least None l.broken

abbrev pub decreases-loop-rest : goal.decreases-loop-rest
decreases-loop-rest l = length l.rest
