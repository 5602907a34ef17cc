use Rattle.std.proofs.Common.{◌≤◌, ◌<◌, ◌∙◌, List, position, reverse, get_or, refl, sym, ap, arith}
use Rattle.jc_class_out.specs.declared.model.FieldModel.{FieldModel}
use Rattle.jc_jvm.specs.Classes.{is_field}
use Rattle.jc_lookups.proofs.Searching.{visit_known, visit_found, visit_above, pushed_one}
use Rattle.jc_lookups.proofs.seeking.visit.Goals as goal

pub returns-then-steps-steps_without : goal.returns-then-steps-steps_without
returns-then-steps-steps_without c =
    let few : c.args.steps ≤ get_or c.args.known.now c.args.class 0 = omega (arith, c.if-steps-steps_without.true, c.steps_without.ensures) in
    visit_known c.args.classes.now c.args.name.now c.args.descriptor.now c.args.known.now c.args.steps c.args.class (reverse c.args.tasks.now) (reverse c.args.tasks.now) few refl

pub returns-in-Some : goal.returns-in-Some
returns-in-Some c =
    let some : 0 < c.args.steps = omega (arith, c.if-steps-steps_without.false) in
    visit_found c.args.classes.now c.args.name.now c.args.descriptor.now c.args.known.now c.args.known.now c.args.steps c.args.class c.in-Some.place (reverse c.args.tasks.now) (reverse c.args.tasks.now) some
    (ap (λ (fs : List FieldModel). position (is_field c.args.name.now c.args.descriptor.now) fs) (sym c.fields_in.ensures) ∙ sym c.in-Some.ensures)

pub returns-in_ok-push-in-None : goal.returns-in_ok-push-in-None
returns-in_ok-push-in-None c =
    let some : 0 < c.args.steps = omega (arith, c.if-steps-steps_without.false) in
    visit_above c.args.classes.now c.args.name.now c.args.descriptor.now c.args.known.now c.args.steps c.args.class (reverse c.args.tasks.now) (reverse c.push.new.self) some
    (ap (λ (fs : List FieldModel). position (is_field c.args.name.now c.args.descriptor.now) fs) (sym c.fields_in.ensures) ∙ sym c.in-None.ensures)
    (pushed_one c.args.tasks.now c.push.new.self _ c.in_ok-push-in-None.ensures.ok)
