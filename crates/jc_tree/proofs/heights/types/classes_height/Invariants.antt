use Rattle.std.proofs.Common.{◌≡◌, drop, map, max}
use Rattle.jc_tree.specs.Heights.{capped, most, class_height}
use Rattle.jc_tree.proofs.heights.types.classes_height.Given as goal

abbrev pub invariant-loop-node : goal.invariant-loop-node
invariant-loop-node l = max l.most (capped (most (map class_height (drop l.node-index l.nodes)))) ≡ capped (most (map class_height l.nodes))
