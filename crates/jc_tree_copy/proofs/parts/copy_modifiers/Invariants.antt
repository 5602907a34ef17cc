use Rattle.std.proofs.Common.{◌≡◌, take}
use Rattle.jc_tree_copy.proofs.parts.copy_modifiers.Given as goal

abbrev pub invariant-loop-i : goal.invariant-loop-i
invariant-loop-i l = l.copies ≡ take l.i l.modifiers
