use Rattle.std.proofs.Common.{◌-◌, ◌+◌, ◌∙◌, ℕ, List, length, position, sym, ap, arith}
use Rattle.std.specs.declared.option.Option.{Option}
use Rattle.jc_class_out.specs.declared.model.ClassModel.{ClassModel}
use Rattle.jc_class_out.specs.declared.model.MethodModel.{MethodModel}
use Rattle.jc_jvm.specs.Classes.{is_method, methods_of}
use Rattle.jc_calls.proofs.MethodLines.{among_on, among_found, among_more, among_end, among_over}
use Rattle.jc_calls.proofs.methods.find_method.Goals as goal

pub returns : goal.returns
returns c = among_over c.args.classes.now (is_method c.args.name.now c.args.descriptor.now) (length c.args.classes.now - c.loop-done.done) c.loop-done.here _ (omega arith) c.loop-done.invariant

pub returns-in-None : goal.returns-in-None
returns-in-None c = among_end c.args.classes.now (is_method c.args.name.now c.args.descriptor.now) (length c.args.classes.now - c.loop-done.done) c.loop-done.here _ c.in-None.is c.loop-done.invariant

pub returns-in-Some-place_named : goal.returns-in-Some-place_named
returns-in-Some-place_named c =
    among_found c.args.classes.now (is_method c.args.name.now c.args.descriptor.now) (length c.args.classes.now) c.loop-done.done c.in-Some.number c.in-Some-place_named.place _ (omega (arith, c.loop-done-test.true, c.len-done-end.ensures))
    (ap (λ (ms : List MethodModel). position (is_method c.args.name.now c.args.descriptor.now) ms) (sym (c.methods_in.ensures ∙ ap (λ (cs : List ClassModel). methods_of cs c.in-Some.number) c.models.ensures)) ∙ sym c.in-Some-place_named.ensures)
    (ap (λ (here : Option ℕ). among_on c.args.classes.now (is_method c.args.name.now c.args.descriptor.now) (length c.args.classes.now - c.loop-done.done) here) (sym c.in-Some.is) ∙ c.loop-done.invariant)

pub loop-done-preserved : goal.loop-done-preserved
loop-done-preserved c =
    ap (λ (here : Option ℕ). among_on c.args.classes.now (is_method c.args.name.now c.args.descriptor.now) (length c.args.classes.now - (c.loop-done.done + 1)) here) c.superclass-here.ensures
    ∙ among_more c.args.classes.now (is_method c.args.name.now c.args.descriptor.now) (length c.args.classes.now) c.loop-done.done c.in-Some.number _ (omega (arith, c.loop-done-test.true, c.len-done-end.ensures))
    (ap (λ (ms : List MethodModel). position (is_method c.args.name.now c.args.descriptor.now) ms) (sym (c.methods_in.ensures ∙ ap (λ (cs : List ClassModel). methods_of cs c.in-Some.number) c.models.ensures)) ∙ sym c.in-None-place_named.ensures)
    (ap (λ (here : Option ℕ). among_on c.args.classes.now (is_method c.args.name.now c.args.descriptor.now) (length c.args.classes.now - c.loop-done.done) here) (sym c.in-Some.is) ∙ c.loop-done.invariant)
