use Rattle.std.proofs.Common.{◌≡◌, ◌+◌, length}
use Rattle.jc_entering.specs.Checked.{checked}
use Rattle.jc_entering.proofs.checks.checked.Given as goal

abbrev pub invariant-loop-rest : goal.invariant-loop-rest
invariant-loop-rest l = l.count + checked l.table l.number l.rest l.others ≡ checked l.table 0 l.fn.params l.others

abbrev pub decreases-loop-rest : goal.decreases-loop-rest
decreases-loop-rest l = length l.rest
