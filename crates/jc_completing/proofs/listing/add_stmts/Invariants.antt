use Rattle.std.proofs.Common.{◌≡◌}
use Rattle.jc_typed.specs.Parts.{stmts_of}
use Rattle.jc_meaning.specs.Programs.{stmts_before}
use Rattle.jc_pending.specs.Level.{stmts_back}
use Rattle.jc_completing.proofs.listing.add_stmts.Given as goal

abbrev pub invariant-loop-before : goal.invariant-loop-before
invariant-loop-before l = stmts_before (stmts_of l.nodes l.list) (stmts_back l.nodes l.out) ≡ stmts_before (stmts_of l.nodes l.fn.at) (stmts_back l.nodes l.fn.out)

abbrev pub decreases-loop-before : goal.decreases-loop-before
decreases-loop-before l = l.list
