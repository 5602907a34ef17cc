use Rattle.std.proofs.Common.{◌≡◌, drop, map, max}
use Rattle.jc_tree.specs.Heights.{capped, most, part_height, arg_height}
use Rattle.jc_tree.proofs.heights.types.+types_heights.Given as goal

abbrev pub invariant-parts_height-loop-node : goal.invariant-parts_height-loop-node
invariant-parts_height-loop-node l = max l.most (capped (most (map part_height (drop l.node-index l.nodes)))) ≡ capped (most (map part_height l.nodes))

abbrev pub invariant-args_height-loop-node : goal.invariant-args_height-loop-node
invariant-args_height-loop-node l = max l.most (capped (most (map arg_height (drop l.node-index l.nodes)))) ≡ capped (most (map arg_height l.nodes))
