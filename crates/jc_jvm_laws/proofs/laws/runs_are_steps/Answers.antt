use Rattle.jc_jvm_laws.proofs.Runs.{run-joined, one-thing, run-over}
use Rattle.jc_jvm_laws.proofs.laws.runs_are_steps.Goals as goal

pub returns-clause-joined : goal.returns-clause-joined
returns-clause-joined c = run-joined

pub returns-clause-one : goal.returns-clause-one
returns-clause-one c = one-thing

pub returns-clause-over : goal.returns-clause-over
returns-clause-over c = run-over
