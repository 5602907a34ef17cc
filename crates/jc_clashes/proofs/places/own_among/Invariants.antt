use Rattle.std.proofs.Common.{◌≡◌, length}
use Rattle.jc_clashes.specs.Clashing.{own_among}
use Rattle.jc_clashes.proofs.places.own_among.Given as goal

abbrev pub invariant-loop-rest : goal.invariant-loop-rest
invariant-loop-rest l = own_among l.table l.k l.rest ≡ own_among l.table l.k l.fn.ids

abbrev pub decreases-loop-rest : goal.decreases-loop-rest
decreases-loop-rest l = length l.rest
