use Rattle.std.proofs.Common.{◌≡◌, drop, map, max}
use Rattle.jc_tree.specs.Heights.{capped, most, expr_height, operand_height, init_height}
use Rattle.jc_tree.proofs.heights.expressions.+expressions_heights.Given as goal

abbrev pub invariant-exprs_height-loop-node : goal.invariant-exprs_height-loop-node
invariant-exprs_height-loop-node l = max l.most (capped (most (map expr_height (drop l.node-index l.nodes)))) ≡ capped (most (map expr_height l.nodes))

abbrev pub invariant-operands_height-loop-node : goal.invariant-operands_height-loop-node
invariant-operands_height-loop-node l = max l.most (capped (most (map operand_height (drop l.node-index l.nodes)))) ≡ capped (most (map operand_height l.nodes))

abbrev pub invariant-inits_height-loop-node : goal.invariant-inits_height-loop-node
invariant-inits_height-loop-node l = max l.most (capped (most (map init_height (drop l.node-index l.nodes)))) ≡ capped (most (map init_height l.nodes))
