use Rattle.std.proofs.Common.{◌≡◌, ◌++◌, filter, length}
use Rattle.jc_lub.specs.Lubs.{least_interface}
use Rattle.jc_lub.proofs.candidates.push_least_interfaces.Given as goal

abbrev pub invariant-loop-rest : goal.invariant-loop-rest
invariant-loop-rest l = l.out ++ filter (least_interface l.table l.all) l.rest ≡ l.fn.out ++ filter (least_interface l.table l.all) l.all

abbrev pub decreases-loop-rest : goal.decreases-loop-rest
decreases-loop-rest l = length l.rest
