use Rattle.jc_bridges_call_laws.proofs.Calling.{calls_run}
use Rattle.jc_bridges_call_laws.proofs.laws.calls_run_bodies.Goals as goal

pub returns : goal.returns
returns c = calls_run
