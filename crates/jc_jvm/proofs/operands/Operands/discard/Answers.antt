use Rattle.std.proofs.Common.{◌∙◌}
use Rattle.jc_jvm.proofs.Units.{taken_away}
use Rattle.jc_jvm.proofs.operands.Operands.discard.Goals as goal

pub loop-taken-preserved : goal.loop-taken-preserved
loop-taken-preserved c = record {
  values = taken_away c.args.self.now.values c.loop-taken.self.values c.pop-top.new.self.values c.loop-taken.taken c.pop-top.result c.loop-taken.invariant.values c.pop-top.ensures.values;
  limit = c.pop-top.ensures.limit ∙ c.loop-taken.invariant.limit;
}
