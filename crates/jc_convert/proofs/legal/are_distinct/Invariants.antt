use Rattle.std.proofs.Common.{◌≡◌, length}
use Rattle.jc_convert.specs.Casting.{distinct_from}
use Rattle.jc_convert.proofs.legal.are_distinct.Given as goal

abbrev pub invariant-loop-rest : goal.invariant-loop-rest
invariant-loop-rest l = distinct_from l.table l.env.bounds l.s l.t l.number l.rest ≡ distinct_from l.table l.env.bounds l.s l.t 0 l.table.classes

abbrev pub decreases-loop-rest : goal.decreases-loop-rest
decreases-loop-rest l = length l.rest
