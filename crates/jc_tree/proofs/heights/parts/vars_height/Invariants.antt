use Rattle.std.proofs.Common.{◌≡◌, drop, map, max}
use Rattle.jc_tree.specs.Heights.{capped, most, var_height}
use Rattle.jc_tree.proofs.heights.parts.vars_height.Given as goal

abbrev pub invariant-loop-node : goal.invariant-loop-node
invariant-loop-node l = max l.most (capped (most (map var_height (drop l.node-index l.nodes)))) ≡ capped (most (map var_height l.nodes))
