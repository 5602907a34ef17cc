use Rattle.std.proofs.Common.{◌≡◌, take}
use Rattle.jc_tree_copy.proofs.skips.+skip_copies.Given as goal

abbrev pub invariant-copy_skip_parts-loop-i : goal.invariant-copy_skip_parts-loop-i
invariant-copy_skip_parts-loop-i l = l.copies ≡ take l.i l.parts
