use Rattle.jc_name_rules.proofs.Units.{next_unit}
use Rattle.jc_name_rules.proofs.least.all_singles.Goals as goal

pub loop-unit-preserved : goal.loop-unit-preserved
loop-unit-preserved c =
    next_unit c.args.declared.now.heads.now c.slice-unit-items.result.now c.loop-unit.all c.push.new.self c.loop-unit.unit-index c.unit-item.result c.slice.result.now c.in_ok-singles_of.field-0 c.loop-unit-test.true c.unit-item.is c.slice.ensures
    c.in_ok-singles_of.ensures c.in_ok-push.ensures.ok c.loop-unit.invariant
