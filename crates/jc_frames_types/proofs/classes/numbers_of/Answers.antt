use Rattle.std.proofs.Common.{◌≤◌, ◌∙◌, length, ap, arith}
use Rattle.jc_class_out.specs.declared.model.ClassModel.{ClassModel}
use Rattle.jc_frames_types.proofs.Numbering.{numbers_one, numbers_all}
use Rattle.jc_frames_types.proofs.classes.numbers_of.Goals as goal

pub loop-number-preserved : goal.loop-number-preserved
loop-number-preserved c =
    numbers_one c.args.classes.now c.loop-number.number c.index-classes-number.result c.loop-number.numbers c.add_name.new.numbers c.slice.result.now c.loop-number-test.true
    (c.slice.ensures ∙ ap (λ (m : ClassModel). m.name) c.index-classes-number.is) c.loop-number.invariant c.in_ok-add_name.ensures

pub returns : goal.returns
returns c =
    let past : length c.args.classes.now ≤ c.loop-number.number = omega (arith, c.loop-number-test.false) in
    numbers_all c.args.classes.now c.loop-number.number c.loop-number.numbers past c.loop-number.invariant
