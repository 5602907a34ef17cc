use Rattle.std.proofs.Common.{map, reverse, ap, ◌∙◌}
use Rattle.jc_typed.specs.Parts.{stmt_of}
use Rattle.jc_completing.specs.Skipping.{behind_label}
use Rattle.jc_completing.proofs.Skips.{map-behind}
use Rattle.jc_completing.proofs.statements.stmts_behind.Goals as goal

pub returns : goal.returns
returns c =
    ap (map (stmt_of c.args.nodes.now)) c.labelled_stmts.ensures
    ∙ (map-behind (stmt_of c.args.nodes.now) c.args.skips (reverse c.in_ok-back.back)
    ∙ ap (behind_label c.args.skips) c.in_ok-back.ensures)
