use Rattle.std.proofs.Common.{◌≡◌, length}
use Rattle.jc_lub.specs.Lubs.{is_above_all}
use Rattle.jc_lub.proofs.candidates.is_above_all.Given as goal

abbrev pub invariant-loop-rest : goal.invariant-loop-rest
invariant-loop-rest l = is_above_all l.table l.env l.rest l.k ≡ is_above_all l.table l.env l.fn.types l.k

abbrev pub decreases-loop-rest : goal.decreases-loop-rest
decreases-loop-rest l = length l.rest
