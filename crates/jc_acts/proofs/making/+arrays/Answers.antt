use Rattle.std.proofs.Common.{arith, ◌∙◌}
use Rattle.jc_meaning.specs.Expressions as e
use Rattle.jc_values.specs.Idle.{idle}
use Rattle.jc_acts.proofs.Rows.{one_more}
use Rattle.jc_acts.proofs.making.+arrays.Goals as goal

pub fill-loop-left-preserved : goal.fill-loop-left-preserved
fill-loop-left-preserved t c =
    (c.loop-left.invariant.0 ∙ one_more c.args.program.now c.args.a c.loop-left.at c.loop-left.left (e.arrays c.args.program.now idle c.args.of.now c.args.lengths.now) _ _ _ _ _ _ _ (omega arith) c.in_ok-v.ensures c.set_part.ensures, omega arith)
