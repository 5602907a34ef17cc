use Rattle.std.proofs.Common.{◌≡◌, ◌++◌, length}
use Rattle.jc_stmts_spec.specs.Typed.{param_locals}
use Rattle.jc_stmts_first.proofs.params.push_params.Given as goal

abbrev pub invariant-loop-rest : goal.invariant-loop-rest
invariant-loop-rest l = l.out ++ param_locals l.rest l.left ≡ l.initial.out ++ param_locals l.fn.names l.fn.types

abbrev pub decreases-loop-rest : goal.decreases-loop-rest
decreases-loop-rest l = length l.rest
