use Rattle.std.proofs.Common.{◌∙◌}
use Rattle.jc_declares.specs.HeadBreaks.{import_breaks}
use Rattle.jc_written.proofs.Counting.{each_turn}
use Rattle.jc_name_rules.proofs.imports.imports_broken.Goals as goal

pub loop-import-preserved : goal.loop-import-preserved
loop-import-preserved c =
    each_turn (import_breaks c.args.declared.now.heads.now c.args.unit.now) c.loop-import.found c.in_ok-found.found c.slice-import-items.result.now c.loop-import.import-index c.import-item.result c.loop-import-test.true c.import-item.is
    (c.in_ok-found.ensures c.loop-import.import-index)
    ∙ c.loop-import.invariant
