use Rattle.std.proofs.Common.{arith}
use Rattle.jc_acts.proofs.Fields.{one_more}
use Rattle.jc_acts.proofs.beginning.field_values.Goals as goal

pub loop-left-preserved : goal.loop-left-preserved
loop-left-preserved c = (one_more c.args.table.now c.loop-left.out _ _ c.loop-left.at c.loop-left.left _ (omega arith) c.in_ok-push.ensures.ok c.default_of.ensures c.loop-left.invariant.0, omega arith)
