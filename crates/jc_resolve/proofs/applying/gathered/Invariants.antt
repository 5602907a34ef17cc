use Rattle.std.proofs.Common.{◌≡◌, length}
use Rattle.jc_resolve.specs.Applying.{before, gathered}
use Rattle.jc_resolve.proofs.applying.gathered.Given as goal

abbrev pub invariant-loop-rest : goal.invariant-loop-rest
invariant-loop-rest l = before l.list (gathered l.table l.env.bounds l.site l.phase l.rest) ≡ gathered l.table l.env.bounds l.site l.phase l.site.members

abbrev pub decreases-loop-rest : goal.decreases-loop-rest
decreases-loop-rest l = length l.rest
