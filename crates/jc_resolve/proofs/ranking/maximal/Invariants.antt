use Rattle.std.proofs.Common.{◌≡◌, length}
use Rattle.jc_resolve.specs.Applying.{before}
use Rattle.jc_resolve.specs.Specific.{maximal}
use Rattle.jc_resolve.proofs.ranking.maximal.Given as goal

abbrev pub invariant-loop-rest : goal.invariant-loop-rest
invariant-loop-rest l =
    (l.env.bounds ≡ l.initial.env.bounds)
    × (before l.list (maximal l.table l.initial.env.bounds l.phase l.all l.rest) ≡ maximal l.table l.initial.env.bounds l.phase l.all l.all)

abbrev pub decreases-loop-rest : goal.decreases-loop-rest
decreases-loop-rest l = length l.rest
