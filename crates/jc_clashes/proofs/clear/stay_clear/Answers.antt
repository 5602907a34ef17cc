use Rattle.std.proofs.Common.{◌≡◌, true, false, length, arith, rules, sym, ◌∙◌}
use Rattle.jc_clashes.specs.Clear.{stays_from}
use Rattle.jc_clashes.proofs.Marked.{clear_further, clear_here}
use Rattle.jc_clashes.proofs.clear.stay_clear.Goals as goal

pub returns-then-not-keeps : goal.returns-then-not-keeps
returns-then-not-keeps c =
    let T = c.args.table.now in
    let marks = c.args.marks.now in
    let broken : c.keeps_clear-keeps.result ≡ false = search rules in
    clear_here T marks c.loop-number.number (length marks) (stays_from T marks 0 (length marks)) (omega arith) (sym broken ∙ c.keeps_clear-keeps.ensures) c.loop-number.invariant

pub loop-number-preserved : goal.loop-number-preserved
loop-number-preserved c =
    let T = c.args.table.now in
    let marks = c.args.marks.now in
    let kept : c.keeps_clear-keeps.result ≡ true = search rules in
    clear_further T marks c.loop-number.number (length marks) (stays_from T marks 0 (length marks)) (omega arith) (sym kept ∙ c.keeps_clear-keeps.ensures) c.loop-number.invariant
