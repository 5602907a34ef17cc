use Rattle.std.proofs.Common.{◌≡◌, ◌+◌, ◌++◌, length}
use Rattle.jc_resolve_sites.specs.Constructors.{constructor_ids, constructors_among}
use Rattle.jc_resolve_sites.proofs.constructors.constructor_ids.Given as goal

abbrev pub invariant-loop-rest : goal.invariant-loop-rest
invariant-loop-rest l = l.list ++ constructors_among l.table l.rest ≡ constructor_ids l.table l.fn.class

abbrev pub decreases-loop-rest : goal.decreases-loop-rest
decreases-loop-rest l = length l.rest
