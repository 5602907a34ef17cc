use Rattle.std.proofs.Common.{◌≡◌, ◌++◌, ◌+◌, length}
use Rattle.jc_meaning.specs.Meaning.{field_values}
use Rattle.jc_acts.proofs.beginning.field_values.Given as goal

abbrev pub invariant-loop-left : goal.invariant-loop-left
invariant-loop-left l = (l.out ++ field_values l.table l.at l.left ≡ field_values l.table 0 (length l.table.fields)) × (l.at + l.left ≡ length l.table.fields)

abbrev pub decreases-loop-left : goal.decreases-loop-left
decreases-loop-left l = l.left
