use Rattle.std.proofs.Common.{◌≡◌, drop}
use Rattle.jc_left_out.specs.LeftOut.{some_static}
use Rattle.jc_left_out.proofs.parts.some_static.Given as goal

abbrev pub invariant-loop-node : goal.invariant-loop-node
invariant-loop-node l = some_static (drop l.node-index l.nodes) ≡ some_static l.nodes
