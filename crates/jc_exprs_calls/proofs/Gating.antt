-- How a walk goes through the parts of a call behind a point.
use Rattle.jc_exprs_nodes_spec.specs.Told.{every}
use Rattle.jc_exprs_nodes_spec.proofs.Runs.{ran_onward, ran_two}
use Rattle.jc_exprs_calls.specs.Laws.{BeforeIsGated, CallIsGated}

pub before_gated : BeforeIsGated
before_gated f m s = ran_onward f m s

pub call_gated : CallIsGated
call_gated f m ms s = ran_two f m (every ms) s
