use Rattle.std.proofs.Common.{◌≡◌, length}
use Rattle.jc_entering.specs.Checked.{other_differs}
use Rattle.jc_entering.proofs.checks.other_differs.Given as goal

abbrev pub invariant-loop-rest : goal.invariant-loop-rest
invariant-loop-rest l = other_differs l.table l.number l.ty l.rest ≡ other_differs l.table l.number l.ty l.fn.others

abbrev pub decreases-loop-rest : goal.decreases-loop-rest
decreases-loop-rest l = length l.rest
