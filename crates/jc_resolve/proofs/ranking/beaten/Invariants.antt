use Rattle.std.proofs.Common.{◌≡◌, length}
use Rattle.jc_resolve.specs.Specific.{beaten, either}
use Rattle.jc_resolve.proofs.ranking.beaten.Given as goal

abbrev pub invariant-loop-rest : goal.invariant-loop-rest
invariant-loop-rest l =
    (l.env.bounds ≡ l.initial.env.bounds)
    × (either l.found (beaten l.table l.initial.env.bounds l.phase l.b l.rest) ≡ beaten l.table l.initial.env.bounds l.phase l.b l.candidates)

abbrev pub decreases-loop-rest : goal.decreases-loop-rest
decreases-loop-rest l = length l.rest
