use Rattle.std.proofs.Common.{◌≡◌, take}
use Rattle.jc_tree_copy.proofs.statements.+statement_copies.Given as goal

abbrev pub invariant-copy_stmts-loop-i : goal.invariant-copy_stmts-loop-i
invariant-copy_stmts-loop-i l = l.copies ≡ take l.i l.stmts

abbrev pub invariant-copy_clauses-loop-i : goal.invariant-copy_clauses-loop-i
invariant-copy_clauses-loop-i l = l.copies ≡ take l.i l.clauses

abbrev pub invariant-copy_members-loop-i : goal.invariant-copy_members-loop-i
invariant-copy_members-loop-i l = l.copies ≡ take l.i l.members
