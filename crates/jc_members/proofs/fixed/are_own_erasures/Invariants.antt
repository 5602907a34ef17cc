use Rattle.std.proofs.Common.{◌≡◌, length}
use Rattle.jc_members.specs.Fixed.{are_own_erasures}
use Rattle.jc_members.proofs.fixed.are_own_erasures.Given as goal

abbrev pub invariant-loop-rest : goal.invariant-loop-rest
invariant-loop-rest l = are_own_erasures l.table l.rest ≡ are_own_erasures l.table l.fn.types

abbrev pub decreases-loop-rest : goal.decreases-loop-rest
decreases-loop-rest l = length l.rest
