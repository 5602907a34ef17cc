use Rattle.std.proofs.Common.{◌≡◌, length, take}
use Rattle.jc_tree_same.proofs.expressions.+same_expressions.Given as goal

abbrev pub invariant-same_exprs-loop-i : goal.invariant-same_exprs-loop-i
invariant-same_exprs-loop-i l = (length l.xs ≡ length l.ys) × (take l.i l.xs ≡ take l.i l.ys)

abbrev pub invariant-same_operands-loop-i : goal.invariant-same_operands-loop-i
invariant-same_operands-loop-i l = (length l.xs ≡ length l.ys) × (take l.i l.xs ≡ take l.i l.ys)

abbrev pub invariant-same_inits-loop-i : goal.invariant-same_inits-loop-i
invariant-same_inits-loop-i l = (length l.xs ≡ length l.ys) × (take l.i l.xs ≡ take l.i l.ys)
