use Rattle.std.proofs.Common.{◌≡◌, length}
use Rattle.jc_resolve.specs.Apart.{is_apart_from}
use Rattle.jc_resolve.proofs.apart.is_apart.Given as goal

abbrev pub invariant-loop-rest : goal.invariant-loop-rest
invariant-loop-rest l = is_apart_from l.rest l.site ≡ is_apart_from l.site.members l.site

abbrev pub decreases-loop-rest : goal.decreases-loop-rest
decreases-loop-rest l = length l.rest
