use Rattle.std.proofs.Common.{◌≡◌, [], length}
use Rattle.jc_types.specs.Breaks.{least}
use Rattle.jc_clashes.specs.Constructors.{constructors_from}
use Rattle.jc_clashes.proofs.constructors.constructors_from.Given as goal

abbrev pub invariant-loop-rest : goal.invariant-loop-rest
invariant-loop-rest l = least l.found (constructors_from l.table l.place l.earlier l.rest) ≡ least l.fn.found (constructors_from l.table l.place [] l.fn.ids)

abbrev pub decreases-loop-rest : goal.decreases-loop-rest
decreases-loop-rest l = length l.rest
