use Rattle.std.proofs.Common.{◌≡◌, ◌<◌, ◌++◌, [], ◌∷◌, length}
use Rattle.jc_flow_spec.specs.States.{exact_or}
use Rattle.jc_flow_parts.proofs.state.exact_or.Given as goal

abbrev pub invariant-loop-rest : goal.invariant-loop-rest
invariant-loop-rest l = exact_or (l.own ∷ []) l.local l.rest ≡ exact_or (l.own ∷ []) l.local l.fn.exact

abbrev pub decreases-loop-rest : goal.decreases-loop-rest
decreases-loop-rest l = length l.rest
