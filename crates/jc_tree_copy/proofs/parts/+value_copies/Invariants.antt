use Rattle.std.proofs.Common.{◌≡◌, take}
use Rattle.jc_tree_copy.proofs.parts.+value_copies.Given as goal

abbrev pub invariant-copy_values-loop-i : goal.invariant-copy_values-loop-i
invariant-copy_values-loop-i l = l.copies ≡ take l.i l.values
