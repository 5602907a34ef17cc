use Rattle.std.proofs.Common.{◌≡◌, ◌<◌, ◌++◌, [], ◌∷◌, length}
use Rattle.jc_flow_spec.specs.States.{joined_all}
use Rattle.jc_flow_parts.proofs.state.join_all.Given as goal

abbrev pub invariant-loop-rest : goal.invariant-loop-rest
invariant-loop-rest l = joined_all l.list l.rest ≡ joined_all l.fn.list l.more

abbrev pub decreases-loop-rest : goal.decreases-loop-rest
decreases-loop-rest l = length l.rest
