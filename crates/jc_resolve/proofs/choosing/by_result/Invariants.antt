use Rattle.std.proofs.Common.{◌≡◌, length}
use Rattle.jc_resolve.specs.Choosing.{by_result}
use Rattle.jc_resolve.proofs.choosing.by_result.Given as goal

abbrev pub invariant-loop-rest : goal.invariant-loop-rest
invariant-loop-rest l = by_result l.table l.env.bounds l.phase l.all l.rest ≡ by_result l.table l.env.bounds l.phase l.all l.all

abbrev pub decreases-loop-rest : goal.decreases-loop-rest
decreases-loop-rest l = length l.rest
