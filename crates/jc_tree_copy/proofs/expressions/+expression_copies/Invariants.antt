use Rattle.std.proofs.Common.{◌≡◌, take}
use Rattle.jc_tree_copy.proofs.expressions.+expression_copies.Given as goal

abbrev pub invariant-copy_exprs-loop-i : goal.invariant-copy_exprs-loop-i
invariant-copy_exprs-loop-i l = l.copies ≡ take l.i l.exprs

abbrev pub invariant-copy_operands-loop-i : goal.invariant-copy_operands-loop-i
invariant-copy_operands-loop-i l = l.copies ≡ take l.i l.operands

abbrev pub invariant-copy_inits-loop-i : goal.invariant-copy_inits-loop-i
invariant-copy_inits-loop-i l = l.copies ≡ take l.i l.inits
