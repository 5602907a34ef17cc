use Rattle.std.proofs.Common.{◌≡◌, ◌<◌, ◌++◌, [], ◌∷◌, length}
use Rattle.jc_flow_spec.specs.Throwing.{is_below_any}
use Rattle.jc_flow_parts.proofs.throwing.is_below_any.Given as goal

abbrev pub invariant-loop-rest : goal.invariant-loop-rest
invariant-loop-rest l = is_below_any l.scene.table.now l.scene.env.now.bounds l.t l.rest ≡ is_below_any l.scene.table.now l.scene.env.now.bounds l.t l.types

abbrev pub decreases-loop-rest : goal.decreases-loop-rest
decreases-loop-rest l = length l.rest
