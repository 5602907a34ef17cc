use Rattle.std.proofs.Common.{◌≡◌, ap, map, subst, sym, ◌∙◌, Option}
use Rattle.std.specs.Prelude.{IfOk, OnOk}
use Rattle.jc_exprs_nodes_spec.specs.Told.{Run, ran}
use Rattle.jc_exprs_nodes_spec.specs.Typeds.{Typed}
use Rattle.jc_exprs_nodes.specs.Walks.{has, known, now}
use Rattle.jc_exprs_worlds.specs.Scenes.{world_of}
use Rattle.jc_exprs_choosing.specs.Choosing.{type_if}
use Rattle.jc_exprs_calls.specs.declared.receivers.ReceiverAt.{ReceiverAt}
use Rattle.jc_exprs_calls.specs.Placing.{AreReceivers, has_receiver}
use Rattle.jc_exprs_calls.specs.Receivers.{receiver_of}
use Rattle.jc_exprs_calls.proofs.Finds.{here_none, here_some}
use Rattle.jc_exprs_calls.proofs.finding.call_here.Goals as goal

pub called-requires-clause-receiver : goal.called-requires-clause-receiver
called-requires-clause-receiver c = let ns = c.args.walk.now.nodes in subst (λ (o : Option ReceiverAt). AreReceivers ns o) c.in-Some.is (c.in_ok-receiver_here.ensures.there ns)

pub returns-in-None-clause-state : goal.returns-in-None-clause-state
returns-in-None-clause-state c =
    let W = world_of c.args.methods.now.scene.now in
    let n = c.args.named.now in
    let ns = c.args.walk.now.nodes in
    let ts = map (known ns) n.args.now in
    let s = now c.args.walk.now in
    let z = here_none W n.place n.name.now (type_if ns n.target) ts (c.in_ok-receiver_here.ensures.value ns ∙ ap (has_receiver ns) c.in-None.is) in
    subst (λ (m : Run Typed). OnOk c.broken.result ((ran m s).state ≡ now c.broken.new.walk)) (sym z) c.broken.ensures.state

pub returns-in-None-clause-value : goal.returns-in-None-clause-value
returns-in-None-clause-value c =
    let W = world_of c.args.methods.now.scene.now in
    let n = c.args.named.now in
    let ns = c.args.walk.now.nodes in
    let ts = map (known ns) n.args.now in
    let s = now c.args.walk.now in
    let z = here_none W n.place n.name.now (type_if ns n.target) ts (c.in_ok-receiver_here.ensures.value ns ∙ ap (has_receiver ns) c.in-None.is) in
    subst (λ (m : Run Typed). IfOk c.broken.result (λ at. (ran m s).has ≡ has c.broken.new.walk.nodes at)) (sym z) c.broken.ensures.value

pub returns-in-Some-clause-state : goal.returns-in-Some-clause-state
returns-in-Some-clause-state c =
    let W = world_of c.args.methods.now.scene.now in
    let n = c.args.named.now in
    let ns = c.args.walk.now.nodes in
    let ts = map (known ns) n.args.now in
    let s = now c.args.walk.now in
    let z = here_some W n.place n.name.now (type_if ns n.target) ts (receiver_of ns c.in-Some.receiver) (c.in_ok-receiver_here.ensures.value ns ∙ ap (has_receiver ns) c.in-Some.is) in
    subst (λ (m : Run Typed). OnOk c.called.result ((ran m s).state ≡ now c.called.new.walk)) (sym z) c.called.ensures.state

pub returns-in-Some-clause-value : goal.returns-in-Some-clause-value
returns-in-Some-clause-value c =
    let W = world_of c.args.methods.now.scene.now in
    let n = c.args.named.now in
    let ns = c.args.walk.now.nodes in
    let ts = map (known ns) n.args.now in
    let s = now c.args.walk.now in
    let z = here_some W n.place n.name.now (type_if ns n.target) ts (receiver_of ns c.in-Some.receiver) (c.in_ok-receiver_here.ensures.value ns ∙ ap (has_receiver ns) c.in-Some.is) in
    subst (λ (m : Run Typed). IfOk c.called.result (λ at. (ran m s).has ≡ has c.called.new.walk.nodes at)) (sym z) c.called.ensures.value
