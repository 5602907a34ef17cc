use Rattle.std.proofs.Common.{◌≡◌, ◌<◌, ◌++◌, [], ◌∷◌, length}
use Rattle.jc_flow_spec.specs.Throwing.{lower_all}
use Rattle.jc_flow_parts.proofs.throwing.push_lower_all.Given as goal

abbrev pub invariant-loop-rest : goal.invariant-loop-rest
invariant-loop-rest l = l.out ++ lower_all l.scene.table.now l.scene.env.now.bounds l.t l.rest ≡ l.fn.out ++ lower_all l.scene.table.now l.scene.env.now.bounds l.t l.types

abbrev pub decreases-loop-rest : goal.decreases-loop-rest
decreases-loop-rest l = length l.rest
