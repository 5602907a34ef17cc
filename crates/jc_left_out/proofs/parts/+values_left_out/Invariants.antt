use Rattle.std.proofs.Common.{◌≡◌, drop}
use Rattle.jc_left_out.specs.LeftOut.{earlier, in_each, least_of, left_out_of_value}
use Rattle.jc_left_out.proofs.parts.+values_left_out.Given as goal

abbrev pub invariant-in_values-loop-node : goal.invariant-in_values-loop-node
invariant-in_values-loop-node l = earlier l.first (least_of (in_each left_out_of_value (drop l.node-index l.nodes))) ≡ least_of (in_each left_out_of_value l.nodes)
