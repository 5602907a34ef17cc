use Rattle.std.proofs.Common.{◌≡◌, length, take}
use Rattle.jc_tree_same.proofs.types.+same_types.Given as goal

abbrev pub invariant-same_parts-loop-i : goal.invariant-same_parts-loop-i
invariant-same_parts-loop-i l = (length l.xs ≡ length l.ys) × (take l.i l.xs ≡ take l.i l.ys)

abbrev pub invariant-same_args-loop-i : goal.invariant-same_args-loop-i
invariant-same_args-loop-i l = (length l.xs ≡ length l.ys) × (take l.i l.xs ≡ take l.i l.ys)
