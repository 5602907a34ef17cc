use Rattle.std.proofs.Common.{◌≡◌, ◌++◌, length}
use Rattle.jc_exprs_spec.specs.Calls.{without_private}
use Rattle.jc_exprs_calls.proofs.members.without_private.Given as goal

abbrev pub invariant-loop-rest : goal.invariant-loop-rest
invariant-loop-rest l = l.left ++ without_private l.table l.rest ≡ without_private l.table l.fn.members

abbrev pub decreases-loop-rest : goal.decreases-loop-rest
decreases-loop-rest l = length l.rest
