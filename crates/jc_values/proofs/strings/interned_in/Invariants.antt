use Rattle.std.proofs.Common.{◌≡◌, length}
use Rattle.jc_heaps.specs.Making.{interned_in}
use Rattle.jc_values.proofs.strings.interned_in.Given as goal

abbrev pub invariant-loop-rest : goal.invariant-loop-rest
invariant-loop-rest l = interned_in l.units l.fn.strings ≡ interned_in l.units l.rest

abbrev pub decreases-loop-rest : goal.decreases-loop-rest
decreases-loop-rest l = length l.rest
