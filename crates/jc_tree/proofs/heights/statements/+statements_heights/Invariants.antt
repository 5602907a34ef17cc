use Rattle.std.proofs.Common.{◌≡◌, drop, map, max}
use Rattle.jc_tree.specs.Heights.{capped, most, member_height, stmt_height, clause_height}
use Rattle.jc_tree.proofs.heights.statements.+statements_heights.Given as goal

abbrev pub invariant-members_height-loop-node : goal.invariant-members_height-loop-node
invariant-members_height-loop-node l = max l.most (capped (most (map member_height (drop l.node-index l.nodes)))) ≡ capped (most (map member_height l.nodes))

abbrev pub invariant-stmts_height-loop-node : goal.invariant-stmts_height-loop-node
invariant-stmts_height-loop-node l = max l.most (capped (most (map stmt_height (drop l.node-index l.nodes)))) ≡ capped (most (map stmt_height l.nodes))

abbrev pub invariant-clauses_height-loop-node : goal.invariant-clauses_height-loop-node
invariant-clauses_height-loop-node l = max l.most (capped (most (map clause_height (drop l.node-index l.nodes)))) ≡ capped (most (map clause_height l.nodes))
