use Rattle.std.proofs.Common.{◌≡◌, ◌++◌, length}
use Rattle.jc_infer.specs.Steps.{by_arguments}
use Rattle.jc_infer.proofs.collecting.by_arguments.Given as goal

abbrev pub invariant-loop-rest : goal.invariant-loop-rest
invariant-loop-rest l = l.out ++ by_arguments l.table l.env l.vars l.rest l.others ≡ by_arguments l.table l.env l.vars l.formals l.args

abbrev pub decreases-loop-rest : goal.decreases-loop-rest
decreases-loop-rest l = length l.rest
