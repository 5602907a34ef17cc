use Rattle.std.proofs.Common.{◌≡◌, drop, map, max}
use Rattle.jc_tree.specs.Heights.{capped, most, effect_height}
use Rattle.jc_tree.proofs.heights.expressions.effects_height.Given as goal

abbrev pub invariant-loop-node : goal.invariant-loop-node
invariant-loop-node l = max l.most (capped (most (map effect_height (drop l.node-index l.nodes)))) ≡ capped (most (map effect_height l.nodes))
