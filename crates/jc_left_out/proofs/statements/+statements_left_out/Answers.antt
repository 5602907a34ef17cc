use Rattle.jc_left_out.specs.LeftOut.{forms_of_clause, forms_of_stmt, left_out_of_member}
use Rattle.jc_left_out.proofs.LeastOfBoth.{least_turn}
use Rattle.jc_left_out.proofs.statements.+statements_left_out.Goals as goal

pub in_stmts-loop-node-preserved : goal.in_stmts-loop-node-preserved
in_stmts-loop-node-preserved t c = least_turn forms_of_stmt c.args.nodes.now c.loop-node.node-index c.node-item.result c.loop-node.first _ c.earlier-first.result c.loop-node-test.true c.node-item.is c.in_stmt.ensures c.earlier-first.ensures c.loop-node.invariant

pub in_clauses-loop-node-preserved : goal.in_clauses-loop-node-preserved
in_clauses-loop-node-preserved t c = least_turn forms_of_clause c.args.nodes.now c.loop-node.node-index c.node-item.result c.loop-node.first _ c.earlier-first.result c.loop-node-test.true c.node-item.is c.in_clause.ensures c.earlier-first.ensures c.loop-node.invariant

pub in_members-loop-node-preserved : goal.in_members-loop-node-preserved
in_members-loop-node-preserved t c = least_turn (left_out_of_member c.args.owner.now) c.args.nodes.now c.loop-node.node-index c.node-item.result c.loop-node.first _ c.earlier-first.result c.loop-node-test.true c.node-item.is c.in_member.ensures c.earlier-first.ensures c.loop-node.invariant
