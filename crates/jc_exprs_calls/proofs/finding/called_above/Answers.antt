use Rattle.std.proofs.Common.{◌≡◌, List, Option, map, subst}
use Rattle.std.specs.Prelude.{IfOk, OnOk}
use Rattle.jc_types.specs.declared.form.Ty.{Ty}
use Rattle.jc_exprs_nodes_spec.specs.Told.{ran}
use Rattle.jc_exprs_nodes_spec.specs.Typeds.{Typed}
use Rattle.jc_exprs_nodes.specs.Walks.{has, known, now}
use Rattle.jc_exprs_gathering.proofs.Gathering.{all_known_stay, parts_stay}
use Rattle.jc_exprs_spec.specs.Calls.{Receiver, called}
use Rattle.jc_exprs_worlds.specs.Scenes.{world_of}
use Rattle.jc_exprs_choosing.specs.Choosing.{type_if}
use Rattle.jc_exprs_calls.specs.Receivers.{receiver_of}
use Rattle.jc_exprs_calls.proofs.Receives.{target_stays, target_there}
use Rattle.jc_exprs_calls.proofs.finding.called_above.Goals as goal

pub called-requires-clause-args : goal.called-requires-clause-args
called-requires-clause-args c = parts_stay c.args.walk.now.nodes c.push_super.new.nodes c.args.named.now.args.now c.in_ok-receiver.ensures.grows c.requires.args

pub called-requires-clause-target : goal.called-requires-clause-target
called-requires-clause-target c = target_there c.args.walk.now.nodes c.push_super.new.nodes c.args.named.now.target c.in_ok-receiver.ensures.grows c.requires.target

pub returns-clause-state : goal.returns-clause-state
returns-clause-state c =
    let W = world_of c.args.methods.now.scene.now in
    let n = c.args.named.now in
    let n0 = c.args.walk.now.nodes in
    let n1 = c.push_super.new.nodes in
    let g = c.in_ok-receiver.ensures.grows in
    let s = now c.args.walk.now in
    let ts = map (known n0) n.args.now in
    let x = c.args.explicit.now in
    subst (λ (r : Receiver). OnOk c.called.result ((ran (called W n.place r n.name.now x ts (type_if n0 n.target)) s).state ≡ now c.called.new.walk)) c.in_ok-receiver.ensures.value
    (subst (λ (us : List Typed). OnOk c.called.result ((ran (called W n.place (receiver_of n1 c.in_ok-receiver.receiver) n.name.now x us (type_if n0 n.target)) s).state ≡ now c.called.new.walk))
    (all_known_stay n0 n1 n.args.now g c.requires.args)
    (subst (λ (o : Option Ty). OnOk c.called.result ((ran (called W n.place (receiver_of n1 c.in_ok-receiver.receiver) n.name.now x (map (known n1) n.args.now) o) s).state ≡ now c.called.new.walk))
    (target_stays n0 n1 n.target g c.requires.target) c.called.ensures.state))

pub returns-clause-value : goal.returns-clause-value
returns-clause-value c =
    let W = world_of c.args.methods.now.scene.now in
    let n = c.args.named.now in
    let n0 = c.args.walk.now.nodes in
    let n1 = c.push_super.new.nodes in
    let g = c.in_ok-receiver.ensures.grows in
    let s = now c.args.walk.now in
    let ts = map (known n0) n.args.now in
    let x = c.args.explicit.now in
    subst (λ (r : Receiver). IfOk c.called.result (λ at. (ran (called W n.place r n.name.now x ts (type_if n0 n.target)) s).has ≡ has c.called.new.walk.nodes at)) c.in_ok-receiver.ensures.value
    (subst (λ (us : List Typed). IfOk c.called.result (λ at. (ran (called W n.place (receiver_of n1 c.in_ok-receiver.receiver) n.name.now x us (type_if n0 n.target)) s).has ≡ has c.called.new.walk.nodes at))
    (all_known_stay n0 n1 n.args.now g c.requires.args)
    (subst (λ (o : Option Ty). IfOk c.called.result (λ at. (ran (called W n.place (receiver_of n1 c.in_ok-receiver.receiver) n.name.now x (map (known n1) n.args.now) o) s).has ≡ has c.called.new.walk.nodes at))
    (target_stays n0 n1 n.target g c.requires.target) c.called.ensures.value))
