use Rattle.std.proofs.Common.{arith, ◌∙◌}
use Rattle.jc_unchecked_spec.specs.Heads.{class_warned}
use Rattle.jc_unchecked_list.proofs.Told.{each_turn}
use Rattle.jc_unchecked_heads.proofs.heads.tell_classes.Goals as goal

pub loop-number-preserved : goal.loop-number-preserved
loop-number-preserved c =
    each_turn (class_warned c.args.table.now) c.loop-number.out _ c.slice-classes.result.now c.loop-number.number c.index-classes-number.result (omega arith) c.index-classes-number.is c.in_ok-tell_class.ensures
    ∙ c.loop-number.invariant
