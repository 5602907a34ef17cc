use Rattle.std.proofs.Common.{arith, Bool, take}
use Rattle.std.proofs.Math.ListN.{length-set}
use Rattle.jc_class_out.proofs.Marks.{mark_next}
use Rattle.jc_class_out.proofs.fitting.mark_one.Goals as goal

pub loop-place-preserved : goal.loop-place-preserved
loop-place-preserved c =
    mark_next c.loop-place.marks (take c.args.at c.args.marks.now) c.args.at c.loop-place.place (omega (arith, c.loop-place.auto.place)) (omega (arith, c.loop-place.auto.marks, length-set {A = Bool}, c.requires.within, c.loop-place-test.true)) c.loop-place.invariant
