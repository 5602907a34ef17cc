use Rattle.std.proofs.Common.{◌≡◌, ◌+◌, ◌++◌, length}
use Rattle.jc_resolve_sites.specs.Renaming.{numbered}
use Rattle.jc_resolve_sites.proofs.renaming.numbered.Given as goal

abbrev pub invariant-loop-rest : goal.invariant-loop-rest
invariant-loop-rest l = l.list ++ numbered l.next (length l.rest) ≡ numbered l.first (length l.like)

abbrev pub decreases-loop-rest : goal.decreases-loop-rest
decreases-loop-rest l = length l.rest
