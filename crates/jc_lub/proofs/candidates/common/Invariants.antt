use Rattle.std.proofs.Common.{◌≡◌, ◌++◌, filter, length}
use Rattle.jc_lub.specs.Lubs.{is_above_all, numbers_from}
use Rattle.jc_lub.proofs.candidates.common.Given as goal

abbrev pub invariant-loop-rest : goal.invariant-loop-rest
invariant-loop-rest l = l.out ++ filter (is_above_all l.table l.env l.types) (numbers_from l.number l.rest) ≡ filter (is_above_all l.table l.env l.types) (numbers_from 0 l.table.classes)

abbrev pub decreases-loop-rest : goal.decreases-loop-rest
decreases-loop-rest l = length l.rest
