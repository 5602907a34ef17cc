use Rattle.std.proofs.Common.{◌≡◌, length, take}
use Rattle.jc_tree_same.proofs.statements.+same_statements.Given as goal

abbrev pub invariant-same_stmts-loop-i : goal.invariant-same_stmts-loop-i
invariant-same_stmts-loop-i l = (length l.xs ≡ length l.ys) × (take l.i l.xs ≡ take l.i l.ys)

abbrev pub invariant-same_clauses-loop-i : goal.invariant-same_clauses-loop-i
invariant-same_clauses-loop-i l = (length l.xs ≡ length l.ys) × (take l.i l.xs ≡ take l.i l.ys)

abbrev pub invariant-same_members-loop-i : goal.invariant-same_members-loop-i
invariant-same_members-loop-i l = (length l.xs ≡ length l.ys) × (take l.i l.xs ≡ take l.i l.ys)
