use Rattle.std.proofs.Common.{◌≡◌, ◌++◌, length}
use Rattle.jc_lub.specs.Lubs.{views}
use Rattle.jc_lub.proofs.candidates.views.Given as goal

abbrev pub invariant-loop-rest : goal.invariant-loop-rest
invariant-loop-rest l = l.out ++ views l.table l.env l.k l.rest ≡ views l.table l.env l.k l.fn.types

abbrev pub decreases-loop-rest : goal.decreases-loop-rest
decreases-loop-rest l = length l.rest
