use Rattle.std.proofs.Common.{◌≡◌, length}
use Rattle.jc_sub.specs.Reaching.{follow}
use Rattle.jc_sub.proofs.views.follow.Given as goal

abbrev pub invariant-loop-rest : goal.invariant-loop-rest
invariant-loop-rest l = follow l.table l.rest l.at ≡ follow l.table l.fn.turns l.fn.t

abbrev pub decreases-loop-rest : goal.decreases-loop-rest
decreases-loop-rest l = length l.rest
