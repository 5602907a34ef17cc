use Rattle.std.proofs.Common.{◌≡◌, length, take}
use Rattle.jc_tree_same.proofs.skips.+same_skips.Given as goal

abbrev pub invariant-same_skip_parts-loop-i : goal.invariant-same_skip_parts-loop-i
invariant-same_skip_parts-loop-i l = (length l.xs ≡ length l.ys) × (take l.i l.xs ≡ take l.i l.ys)
