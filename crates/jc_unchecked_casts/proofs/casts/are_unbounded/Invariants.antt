use Rattle.std.proofs.Common.{◌≡◌, ◌<◌, length}
use Rattle.std.specs.List.{list_all}
use Rattle.jc_types.specs.Reifying.{is_unbounded}
use Rattle.jc_unchecked_casts.proofs.casts.are_unbounded.Given as goal

abbrev pub invariant-loop-rest : goal.invariant-loop-rest
invariant-loop-rest l = list_all is_unbounded l.rest ≡ list_all is_unbounded l.args

abbrev pub decreases-loop-rest : goal.decreases-loop-rest
decreases-loop-rest l = length l.rest
