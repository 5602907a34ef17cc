use Rattle.std.proofs.Common.{◌≡◌, ◌<◌, length}
use Rattle.jc_unchecked.specs.All.{bodies_told}
use Rattle.jc_unchecked.proofs.listing.tell_bodies.Given as goal

abbrev pub invariant-loop-rest : goal.invariant-loop-rest
invariant-loop-rest l = bodies_told l.table l.rest l.out ≡ bodies_told l.table l.methods l.fn.out

abbrev pub decreases-loop-rest : goal.decreases-loop-rest
decreases-loop-rest l = length l.rest
