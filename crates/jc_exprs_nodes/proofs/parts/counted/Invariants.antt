use Rattle.std.proofs.Common.{◌≡◌, ◌<◌, length}
use Rattle.jc_typed.specs.Parts.{steps_of, type_of}
use Rattle.jc_exprs_nodes_spec.specs.Typeds.{behind}
use Rattle.jc_exprs_nodes.proofs.parts.counted.Given as goal

abbrev pub invariant-loop-before : goal.invariant-loop-before
invariant-loop-before l =
    (behind (type_of l.nodes l.ty) (steps_of l.nodes l.at) ≡ behind (type_of l.nodes l.ty) (steps_of l.nodes l.fn.steps)) × (l.at < length l.nodes)

abbrev pub decreases-loop-before : goal.decreases-loop-before
decreases-loop-before l = l.at
