use Rattle.std.proofs.Common.{◌≡◌, ◌++◌, drop, map}
use Rattle.jc_stmts_spec.specs.Plans.{flat, of_var}
use Rattle.jc_stmts_plan.proofs.parts.push_vars.Given as goal

abbrev pub invariant-loop-var : goal.invariant-loop-var
invariant-loop-var l = l.plan ++ flat (map (of_var l.is_final l.ty) (drop l.var-index l.vars)) ≡ l.initial.plan ++ flat (map (of_var l.is_final l.ty) l.vars)
