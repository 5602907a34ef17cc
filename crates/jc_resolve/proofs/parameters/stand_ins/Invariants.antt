use Rattle.std.proofs.Common.{◌≡◌, ◌++◌, length}
use Rattle.jc_resolve.specs.Parameters.{stand_ins}
use Rattle.jc_resolve.proofs.parameters.stand_ins.Given as goal

abbrev pub invariant-loop-rest : goal.invariant-loop-rest
invariant-loop-rest l = l.list ++ stand_ins l.next l.rest ≡ stand_ins l.first l.vars

abbrev pub decreases-loop-rest : goal.decreases-loop-rest
decreases-loop-rest l = length l.rest
