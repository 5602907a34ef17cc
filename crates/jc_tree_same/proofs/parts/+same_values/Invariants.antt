use Rattle.std.proofs.Common.{◌≡◌, length, take}
use Rattle.jc_tree_same.proofs.parts.+same_values.Given as goal

abbrev pub invariant-same_values-loop-i : goal.invariant-same_values-loop-i
invariant-same_values-loop-i l = (length l.xs ≡ length l.ys) × (take l.i l.xs ≡ take l.i l.ys)
