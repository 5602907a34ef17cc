use Rattle.std.proofs.Common.{◌≡◌, drop}
use Rattle.jc_left_out.specs.LeftOut.{earlier, in_each, least_of, left_out_of_pair}
use Rattle.jc_left_out.proofs.parts.in_pairs.Given as goal

abbrev pub invariant-loop-node : goal.invariant-loop-node
invariant-loop-node l = earlier l.first (least_of (in_each left_out_of_pair (drop l.node-index l.nodes))) ≡ least_of (in_each left_out_of_pair l.nodes)
