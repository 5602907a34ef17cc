use Rattle.std.proofs.Common.{◌≡◌, ◌-◌, length}
use Rattle.jc_clashes.specs.Clear.{stays_from}
use Rattle.jc_clashes.proofs.clear.stay_clear.Given as goal

abbrev pub invariant-loop-number : goal.invariant-loop-number
invariant-loop-number l = stays_from l.table l.marks l.number (length l.marks - l.number) ≡ stays_from l.table l.marks 0 (length l.marks)
