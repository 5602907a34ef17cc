use Rattle.std.proofs.Common.{◌≡◌, ◌++◌, length}
use Rattle.jc_flow_spec.specs.Methods.{uncaught_breaks}
use Rattle.jc_flow.proofs.methods.push_uncaught.Given as goal

abbrev pub invariant-loop-rest : goal.invariant-loop-rest
invariant-loop-rest l = l.out ++ uncaught_breaks l.scene.table.now l.scene.env.now.bounds l.declared l.rest ≡ l.fn.out ++ uncaught_breaks l.scene.table.now l.scene.env.now.bounds l.declared l.thrown

abbrev pub decreases-loop-rest : goal.decreases-loop-rest
decreases-loop-rest l = length l.rest
