use Rattle.std.proofs.Common.{◌≡◌, ◌++◌, length}
use Rattle.jc_exprs_locals.specs.Scoped.{locals_of}
use Rattle.jc_stmts_spec.specs.Typed.{in_scope}
use Rattle.jc_stmts_first.proofs.params.scope_params.Given as goal

abbrev pub invariant-loop-rest : goal.invariant-loop-rest
invariant-loop-rest l = locals_of l.locals ++ in_scope l.number l.rest ≡ locals_of l.initial.locals ++ in_scope l.first l.fn.params

abbrev pub decreases-loop-rest : goal.decreases-loop-rest
decreases-loop-rest l = length l.rest
