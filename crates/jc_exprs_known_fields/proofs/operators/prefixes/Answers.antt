use Rattle.std.proofs.Common.{◌∙◌, arith}
use Rattle.jc_exprs_known_fields.proofs.Prefixes.{prefixes_turn}
use Rattle.jc_exprs_known_fields.proofs.operators.prefixes.Goals as goal

pub loop-left-preserved : goal.loop-left-preserved
loop-left-preserved c =
    record {
      within = omega arith;
      value = prefixes_turn c.args.ops.now c.loop-left.left _ c.loop-left.value c.prefixed-value.result c.loop-left-test.true c.loop-left.invariant.within c.prefixed-value.ensures ∙ c.loop-left.invariant.value;
    }
