use Rattle.std.proofs.Common.{◌≡◌, Option, map, subst, sym}
use Rattle.std.specs.Prelude.{IfOk, OnOk}
use Rattle.jc_types.specs.declared.form.Ty.{Ty}
use Rattle.jc_types.specs.declared.form.Ty.TheVariants.{NullTy}
use Rattle.jc_types.specs.Accessors.{result_of}
use Rattle.jc_typed.specs.Trees.{Form}
use Rattle.jc_exprs_nodes_spec.specs.Told.{fine, ran}
use Rattle.jc_exprs_nodes_spec.specs.Typeds.{Typed, captured, node, read_guard}
use Rattle.jc_exprs_nodes.specs.Walks.{has, known, now}
use Rattle.jc_exprs_worlds.specs.Scenes.{world_of}
use Rattle.jc_exprs_spec.specs.Calls.{call_typed, result_erasure}
use Rattle.jc_exprs_calls.specs.Receivers.{receiver_of}
use Rattle.jc_exprs_calls.proofs.invoking.call_typed.Goals as goal

-- the form is what was made of the parts, and the result decides which of two nodes it is of

pub returns-in-None-clause-state : goal.returns-in-None-clause-state
unfolding world_of
returns-in-None-clause-state c =
    let W = world_of c.args.scene.now in
    let env = c.args.walk.now.env.bounds in
    let place = c.args.call.now.place in
    let r = receiver_of c.args.walk.now.nodes c.args.call.now.receiver in
    let ts = map (known c.args.walk.now.nodes) c.args.call.now.args.now in
    let ch = c.args.chosen.now in
    let s = now c.args.walk.now in
    subst (λ (o : Option Ty). OnOk c.void_call.result ((ran (call_typed W env place r ts ch o) s).state ≡ now c.void_call.new.walk)) (sym c.in-None.is)
    (subst (λ (f : Form). OnOk c.void_call.result ((ran (fine {A = Typed} (node place NullTy f)) s).state ≡ now c.void_call.new.walk)) c.in_ok-form.ensures.value c.void_call.ensures.state)

pub returns-in-None-clause-value : goal.returns-in-None-clause-value
unfolding world_of
returns-in-None-clause-value c =
    let W = world_of c.args.scene.now in
    let env = c.args.walk.now.env.bounds in
    let place = c.args.call.now.place in
    let r = receiver_of c.args.walk.now.nodes c.args.call.now.receiver in
    let ts = map (known c.args.walk.now.nodes) c.args.call.now.args.now in
    let ch = c.args.chosen.now in
    let s = now c.args.walk.now in
    subst (λ (o : Option Ty). IfOk c.void_call.result (λ at. (ran (call_typed W env place r ts ch o) s).has ≡ has c.void_call.new.walk.nodes at)) (sym c.in-None.is)
    (subst (λ (f : Form). IfOk c.void_call.result (λ at. (ran (fine {A = Typed} (node place NullTy f)) s).has ≡ has c.void_call.new.walk.nodes at)) c.in_ok-form.ensures.value c.void_call.ensures.value)

pub returns-in-Some-clause-state : goal.returns-in-Some-clause-state
unfolding world_of
returns-in-Some-clause-state c =
    let W = world_of c.args.scene.now in
    let T = c.args.scene.now.table.now in
    let env = c.args.walk.now.env.bounds in
    let place = c.args.call.now.place in
    let r = receiver_of c.args.walk.now.nodes c.args.call.now.receiver in
    let ts = map (known c.args.walk.now.nodes) c.args.call.now.args.now in
    let ch = c.args.chosen.now in
    let s = now c.args.walk.now in
    let t = c.in-Some.ty in
    subst (λ (o : Option Ty). OnOk c.valued_call.result ((ran (call_typed W env place r ts ch o) s).state ≡ now c.valued_call.new.walk)) (sym c.in-Some.is)
    (subst
    (λ (f : Form). OnOk c.valued_call.result ((ran (captured T place t f (read_guard T env (result_erasure T ch.member.id (result_of T ch.member.id)) t)) s).state ≡ now c.valued_call.new.walk))
    c.in_ok-form.ensures.value c.valued_call.ensures.state)

pub returns-in-Some-clause-value : goal.returns-in-Some-clause-value
unfolding world_of
returns-in-Some-clause-value c =
    let W = world_of c.args.scene.now in
    let T = c.args.scene.now.table.now in
    let env = c.args.walk.now.env.bounds in
    let place = c.args.call.now.place in
    let r = receiver_of c.args.walk.now.nodes c.args.call.now.receiver in
    let ts = map (known c.args.walk.now.nodes) c.args.call.now.args.now in
    let ch = c.args.chosen.now in
    let s = now c.args.walk.now in
    let t = c.in-Some.ty in
    subst (λ (o : Option Ty). IfOk c.valued_call.result (λ at. (ran (call_typed W env place r ts ch o) s).has ≡ has c.valued_call.new.walk.nodes at)) (sym c.in-Some.is)
    (subst
    (λ (f : Form). IfOk c.valued_call.result (λ at. (ran (captured T place t f (read_guard T env (result_erasure T ch.member.id (result_of T ch.member.id)) t)) s).has ≡ has c.valued_call.new.walk.nodes at))
    c.in_ok-form.ensures.value c.valued_call.ensures.value)
