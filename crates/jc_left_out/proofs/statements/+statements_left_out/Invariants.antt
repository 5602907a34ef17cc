use Rattle.std.proofs.Common.{◌≡◌, drop}
use Rattle.jc_left_out.specs.LeftOut.{earlier, forms_of_clause, forms_of_stmt, in_each, least_of, left_out_of_member}
use Rattle.jc_left_out.proofs.statements.+statements_left_out.Given as goal

abbrev pub invariant-in_stmts-loop-node : goal.invariant-in_stmts-loop-node
invariant-in_stmts-loop-node l = earlier l.first (least_of (in_each forms_of_stmt (drop l.node-index l.nodes))) ≡ least_of (in_each forms_of_stmt l.nodes)

abbrev pub invariant-in_clauses-loop-node : goal.invariant-in_clauses-loop-node
invariant-in_clauses-loop-node l = earlier l.first (least_of (in_each forms_of_clause (drop l.node-index l.nodes))) ≡ least_of (in_each forms_of_clause l.nodes)

abbrev pub invariant-in_members-loop-node : goal.invariant-in_members-loop-node
invariant-in_members-loop-node l = earlier l.first (least_of (in_each (left_out_of_member l.owner) (drop l.node-index l.nodes))) ≡ least_of (in_each (left_out_of_member l.owner) l.nodes)
