use Rattle.std.proofs.Common.{◌≡◌, length}
use Rattle.jc_infer.specs.Asked.{within}
use Rattle.jc_infer.proofs.asking.within.Given as goal

abbrev pub invariant-loop-rest : goal.invariant-loop-rest
invariant-loop-rest l = within l.table l.env.bounds l.t l.bounds ≡ within l.table l.env.bounds l.t l.rest

abbrev pub decreases-loop-rest : goal.decreases-loop-rest
decreases-loop-rest l = length l.rest
