use Rattle.std.proofs.Common.{◌≡◌, ◌++◌, length}
use Rattle.jc_infer.specs.Steps.{parameters}
use Rattle.jc_infer.proofs.answering.parameters.Given as goal

abbrev pub invariant-loop-rest : goal.invariant-loop-rest
invariant-loop-rest l = l.list ++ parameters l.table l.env.bounds l.implied l.rest l.others ≡ parameters l.table l.env.bounds l.implied l.vars l.bounds

abbrev pub decreases-loop-rest : goal.decreases-loop-rest
decreases-loop-rest l = length l.rest
