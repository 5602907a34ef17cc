use Rattle.std.proofs.Common.{◌≡◌, ◌-◌, ◌++◌, length}
use Rattle.jc_clashes.specs.Shapes.{groups, groups_from}
use Rattle.jc_clashes.proofs.shapes.groups.Given as goal

abbrev pub invariant-loop-number : goal.invariant-loop-number
invariant-loop-number l = l.out ++ groups_from l.table l.number (length l.table.methods - l.number) ≡ groups l.table
