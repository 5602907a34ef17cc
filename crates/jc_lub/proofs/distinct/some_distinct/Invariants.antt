use Rattle.std.proofs.Common.{◌≡◌, length}
use Rattle.jc_lub.specs.Distinct.{some_distinct}
use Rattle.jc_lub.proofs.distinct.some_distinct.Given as goal

abbrev pub invariant-loop-xs : goal.invariant-loop-xs
invariant-loop-xs l = some_distinct l.table l.left.bounds l.right.bounds l.xs l.ss l.ys l.ts ≡ some_distinct l.table l.left.bounds l.right.bounds l.fn.args l.fn.types l.fn.other_args l.fn.other_types

abbrev pub decreases-loop-xs : goal.decreases-loop-xs
decreases-loop-xs l = length l.xs
