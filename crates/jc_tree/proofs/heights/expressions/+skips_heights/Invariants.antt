use Rattle.std.proofs.Common.{◌≡◌, drop, map, max}
use Rattle.jc_tree.specs.Heights.{capped, most, skip_part_height}
use Rattle.jc_tree.proofs.heights.expressions.+skips_heights.Given as goal

abbrev pub invariant-skip_parts_height-loop-node : goal.invariant-skip_parts_height-loop-node
invariant-skip_parts_height-loop-node l = max l.most (capped (most (map skip_part_height (drop l.node-index l.nodes)))) ≡ capped (most (map skip_part_height l.nodes))
