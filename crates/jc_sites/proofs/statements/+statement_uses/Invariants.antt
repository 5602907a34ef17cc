use Rattle.std.proofs.Common.{◌≡◌, ◌++◌, drop}
use Rattle.jc_declares.specs.Sites.{uses_in_each, uses_of_stmt, uses_of_clause}
use Rattle.jc_sites.specs.Joining.{placed}
use Rattle.jc_sites.proofs.statements.+statement_uses.Given as goal

abbrev pub invariant-push_stmts-loop-node : goal.invariant-push_stmts-loop-node
invariant-push_stmts-loop-node l = l.uses ++ placed l.spot (uses_in_each uses_of_stmt (drop l.node-index l.nodes)) ≡ l.initial.uses ++ placed l.spot (uses_in_each uses_of_stmt l.nodes)

abbrev pub invariant-push_clauses-loop-node : goal.invariant-push_clauses-loop-node
invariant-push_clauses-loop-node l = l.uses ++ placed l.spot (uses_in_each uses_of_clause (drop l.node-index l.nodes)) ≡ l.initial.uses ++ placed l.spot (uses_in_each uses_of_clause l.nodes)
