use Rattle.std.proofs.Common.{◌≡◌, ◌++◌, drop}
use Rattle.jc_stmts_spec.specs.Plans.{asks}
use Rattle.jc_stmts_plan.specs.Seen.{want_seen}
use Rattle.jc_stmts_plan.proofs.parts.push_asks.Given as goal

abbrev pub invariant-loop-expr : goal.invariant-loop-expr
invariant-loop-expr l = l.plan ++ asks (want_seen l.want) (drop l.expr-index l.exprs) ≡ l.initial.plan ++ asks (want_seen l.want) l.exprs
