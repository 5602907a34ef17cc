use Rattle.std.proofs.Common.{◌≡◌, ◌<◌, ◌++◌, [], ◌∷◌, length}
use Rattle.jc_flow_spec.specs.Throwing.{is_thrown}
use Rattle.jc_flow_parts.proofs.throwing.is_thrown.Given as goal

abbrev pub invariant-loop-rest : goal.invariant-loop-rest
invariant-loop-rest l = is_thrown l.scene.table.now l.scene.env.now.bounds l.rest l.a ≡ is_thrown l.scene.table.now l.scene.env.now.bounds l.thrown l.a

abbrev pub decreases-loop-rest : goal.decreases-loop-rest
decreases-loop-rest l = length l.rest
