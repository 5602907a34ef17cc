use Rattle.std.proofs.Common.{◌≡◌, length}
use Rattle.jc_convert.specs.Converting.{first_unboxed}
use Rattle.jc_convert.proofs.boxing.first_unboxed.Given as goal

abbrev pub invariant-loop-rest : goal.invariant-loop-rest
invariant-loop-rest l = first_unboxed l.table l.env l.t l.rest ≡ first_unboxed l.table l.env l.t l.fn.primitives

abbrev pub decreases-loop-rest : goal.decreases-loop-rest
decreases-loop-rest l = length l.rest
