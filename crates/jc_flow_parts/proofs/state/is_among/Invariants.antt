use Rattle.std.proofs.Common.{◌≡◌, ◌<◌, ◌++◌, [], ◌∷◌, length}
use Rattle.jc_typed.specs.Copies.{is_among}
use Rattle.jc_flow_parts.proofs.state.is_among.Given as goal

abbrev pub invariant-loop-rest : goal.invariant-loop-rest
invariant-loop-rest l = is_among l.t l.rest ≡ is_among l.t l.fn.list

abbrev pub decreases-loop-rest : goal.decreases-loop-rest
decreases-loop-rest l = length l.rest
