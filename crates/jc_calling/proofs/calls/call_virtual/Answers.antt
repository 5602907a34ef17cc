use Rattle.std.proofs.Common.{ℕ, List, [], ◌∷◌, Option, Some, ap, subst, sym, ◌∙◌}
use Rattle.jc_types.specs.declared.ids.ClassId.{ClassId}
use Rattle.jc_types.specs.declared.ids.MethodId.{MethodId}
use Rattle.jc_types.specs.declared.form.Ty.{Ty}
use Rattle.jc_types.specs.Accessors.{params_of, result_of}
use Rattle.jc_types.specs.Erasing.{erasure}
use Rattle.jc_running.specs.declared.value.Value.{Value}
use Rattle.jc_running.specs.declared.value.Value.TheVariants.{Address}
use Rattle.jc_running.specs.Outcomes.{Out, bind, on_both, throw}
use Rattle.jc_heaps.specs.declared.state.Object.{Object}
use Rattle.jc_heaps.specs.States.{in_frame, object_at, some_or_wrong}
use Rattle.jc_heaps.specs.Classes.{methods_class}
use Rattle.jc_meaning.specs.declared.frame.Frame.{Frame}
use Rattle.jc_meaning.specs.Kept.{TypedState}
use Rattle.jc_meaning.specs.Programs.{selected}
use Rattle.jc_meaning.specs.Calls as m
use Rattle.jc_pending.specs.Leads.{Leads}
use Rattle.jc_pending.specs.Level.{body}
use Rattle.jc_calling.proofs.calls.call_virtual.Goals as goal

-- the receiver's address, its object, the body that its class selects, and that body's frame, each in its place
pub returns : goal.returns
returns c = λ k coherent.
    subst (λ (o : Out TypedState ℕ). Leads c.args.program.now c.args.nodes.now c.args.depth k c.call_entered.result c.call_entered.new.run (k.value
    (on_both o (λ a. bind (object_at a) (λ x. m.call_selected c.args.program.now (body c.args.program.now c.args.depth) c.args.method (selected c.args.program.now (methods_class (erasure c.args.program.now.table [] x.kept)) c.args.method) a x c.args.args c.args.types)) throw)))
    (sym c.in_ok-a.ensures)
    (subst (λ (o : Option (Object Ty)). Leads c.args.program.now c.args.nodes.now c.args.depth k c.call_entered.result c.call_entered.new.run (k.value
    (on_both (some_or_wrong o c.address_of.new.run.units c.address_of.new.run.state) (λ x. m.call_selected c.args.program.now (body c.args.program.now c.args.depth) c.args.method (selected c.args.program.now (methods_class (erasure c.args.program.now.table [] x.kept)) c.args.method) c.in_ok-a.a x c.args.args c.args.types) throw)))
    c.in-Some.ensures.value
    (subst (λ (o : Option MethodId). Leads c.args.program.now c.args.nodes.now c.args.depth k c.call_entered.result c.call_entered.new.run (k.value
    (m.call_selected c.args.program.now (body c.args.program.now c.args.depth) c.args.method o c.in_ok-a.a c.in-Some.object.now c.args.args c.args.types c.address_of.new.run.units c.address_of.new.run.state)))
    (c.in-Some-selected.ensures ∙ ap (λ (x : ClassId). selected c.args.program.now x c.args.method) (c.methods_class-of.ensures ∙ ap methods_class c.closed_erasure.ensures))
    (subst (λ (f : Frame). Leads c.args.program.now c.args.nodes.now c.args.depth k c.call_entered.result c.call_entered.new.run (k.value
    (bind (m.entered_all c.args.program.now (params_of c.args.program.now.table c.args.method) (params_of c.args.program.now.table c.in-Some-selected.own) c.args.args) (λ vs. bind (in_frame (m.first_locals c.args.program.now c.in-Some-selected.own (Address c.in_ok-a.a ∷ vs)) f (bind (body c.args.program.now c.args.depth c.in-Some-selected.own) (m.answer_of c.args.program.now c.in-Some-selected.own))) (m.answered c.args.program.now (result_of c.args.program.now.table c.args.method) (result_of c.args.program.now.table c.in-Some-selected.own))) c.address_of.new.run.units c.address_of.new.run.state)))
    (c.in_ok-frame.ensures ∙ ap (λ (ts : List Ty). m.frame_of c.args.program.now c.in-Some-selected.own (Some c.in-Some.object.now) ts) c.slice.ensures)
    (subst (λ (vals : List Value). Leads c.args.program.now c.args.nodes.now c.args.depth k c.call_entered.result c.call_entered.new.run (k.value
    (bind (m.entered_all c.args.program.now (params_of c.args.program.now.table c.args.method) (params_of c.args.program.now.table c.in-Some-selected.own) vals) (λ vs. bind (in_frame (m.first_locals c.args.program.now c.in-Some-selected.own (Address c.in_ok-a.a ∷ vs)) c.in_ok-frame.frame (bind (body c.args.program.now c.args.depth c.in-Some-selected.own) (m.answer_of c.args.program.now c.in-Some-selected.own))) (m.answered c.args.program.now (result_of c.args.program.now.table c.args.method) (result_of c.args.program.now.table c.in-Some-selected.own))) c.address_of.new.run.units c.address_of.new.run.state)))
    c.slice-2.ensures
    (c.call_entered.ensures k coherent)))))
