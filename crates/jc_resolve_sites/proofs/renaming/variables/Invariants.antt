use Rattle.std.proofs.Common.{◌≡◌, ◌+◌, ◌++◌, length}
use Rattle.jc_overriding.specs.Signatures.{variables}
use Rattle.jc_resolve_sites.proofs.renaming.variables.Given as goal

abbrev pub invariant-loop-rest : goal.invariant-loop-rest
invariant-loop-rest l = l.list ++ variables l.rest ≡ variables l.vars

abbrev pub decreases-loop-rest : goal.decreases-loop-rest
decreases-loop-rest l = length l.rest
