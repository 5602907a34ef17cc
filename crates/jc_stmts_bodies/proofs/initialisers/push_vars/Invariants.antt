use Rattle.std.proofs.Common.{◌≡◌, ◌++◌, drop}
use Rattle.jc_stmts_bodies.specs.Flat.{behind_in, vars_in}
use Rattle.jc_stmts_bodies.proofs.initialisers.push_vars.Given as goal

abbrev pub invariant-loop-var : goal.invariant-loop-var
invariant-loop-var l =
    (l.list ++ vars_in l.table (drop l.var-index l.vars) l.left ≡ l.initial.list ++ vars_in l.table l.vars l.fields)
    × (behind_in (drop l.var-index l.vars) l.left ≡ behind_in l.vars l.fields)
