use Rattle.std.proofs.Common.{◌∙◌}
use Rattle.jc_declares.specs.HeadBreaks.{unit_breaks}
use Rattle.jc_written.proofs.Counting.{each_turn}
use Rattle.jc_name_rules.proofs.least.units_broken.Goals as goal

pub loop-unit-preserved : goal.loop-unit-preserved
loop-unit-preserved c =
    each_turn (unit_breaks c.args.declared.now.heads.now) c.loop-unit.found c.in_ok-found.found c.slice-unit-items.result.now c.loop-unit.unit-index c.unit-item.result c.loop-unit-test.true c.unit-item.is (c.in_ok-found.ensures c.loop-unit.unit-index)
    ∙ c.loop-unit.invariant
