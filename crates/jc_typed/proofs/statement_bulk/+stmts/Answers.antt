use Rattle.std.proofs.Common.{refl}
use Rattle.jc_typed.specs.Bulk.{stmt_bulk, stmts_bulk}
use Rattle.jc_typed.specs.Parts.{stmt_of, stmts_of}
use Rattle.jc_typed.proofs.Weighing.{capped_copies}
use Rattle.jc_typed.proofs.statement_bulk.+stmts.Goals as goal

pub finally_bulk-returns-in-More : goal.finally_bulk-returns-in-More
finally_bulk-returns-in-More t c =
    rw (c.in-More.ensures.value, c.saturating_mul.ensures)
    (capped_copies c.args.copies c.stmts_bulk.result c.stmt_bulk.result (stmts_bulk (stmts_of c.args.nodes.now c.in-More.before)) (stmt_bulk (stmt_of c.args.nodes.now c.in-More.last)) c.saturating_add-in-More.result c.stmts_bulk.ensures c.stmt_bulk.ensures (rw c.saturating_add-in-More.ensures (rw c.saturating_add.ensures refl)))
