use Rattle.std.proofs.Common.{◌≡◌, ◌<◌, ◌++◌, [], ◌∷◌, length}
use Rattle.jc_typed.specs.Parts.{catches_of}
use Rattle.jc_flow_spec.specs.Throwing.{uncaught}
use Rattle.jc_flow_parts.proofs.throwing.uncaught.Given as goal

abbrev pub invariant-loop-rest : goal.invariant-loop-rest
invariant-loop-rest l = l.out ++ uncaught l.scene.table.now l.scene.env.now.bounds (catches_of l.scene.nodes.now l.at) l.rest ≡ uncaught l.scene.table.now l.scene.env.now.bounds (catches_of l.scene.nodes.now l.at) l.thrown

abbrev pub decreases-loop-rest : goal.decreases-loop-rest
decreases-loop-rest l = length l.rest
