use Rattle.std.proofs.Common.{◌≡◌, length}
use Rattle.jc_resolve.specs.Specific.{all_below}
use Rattle.jc_resolve.proofs.ranking.all_below.Given as goal

abbrev pub invariant-loop-rest : goal.invariant-loop-rest
invariant-loop-rest l = all_below l.table l.env.bounds l.rest l.others ≡ all_below l.table l.env.bounds l.types l.wanted

abbrev pub decreases-loop-rest : goal.decreases-loop-rest
decreases-loop-rest l = length l.rest
