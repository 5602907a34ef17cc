use Rattle.std.proofs.Common.{◌≡◌, ap, map, subst, sym, ◌∙◌}
use Rattle.std.specs.Prelude.{IfOk, OnOk}
use Rattle.jc_exprs_nodes_spec.specs.Told.{Ran}
use Rattle.jc_exprs_nodes_spec.specs.Typeds.{Typed}
use Rattle.jc_exprs_nodes.specs.Walks.{has, known, now}
use Rattle.jc_exprs_worlds.specs.Scenes.{world_of}
use Rattle.jc_exprs_choosing.specs.Breaking.{breaks_of}
use Rattle.jc_exprs_calls.specs.Receivers.{receiver_of}
use Rattle.jc_exprs_calls.proofs.Callings.{called_broken, called_whole}
use Rattle.jc_exprs_calls.proofs.invoking.called_with.Goals as goal

pub returns-in-Some-clause-state : goal.returns-in-Some-clause-state
returns-in-Some-clause-state c =
    let W = world_of c.args.scene.now in
    let k = c.args.call.now in
    let ns = c.args.walk.now.nodes in
    let r = receiver_of ns k.receiver in
    let ts = map (known ns) k.args.now in
    let s = now c.args.walk.now in
    let z = called_broken W k.place r ts c.args.chosen.now s c.in-Some.broken (c.call_broken.ensures ns ∙ ap breaks_of c.in-Some.is) in
    subst (λ (x : Ran Typed). OnOk c.refused_by.result (x.state ≡ now c.refused_by.new.walk)) (sym z) c.refused_by.ensures.state

pub returns-in-Some-clause-value : goal.returns-in-Some-clause-value
returns-in-Some-clause-value c =
    let W = world_of c.args.scene.now in
    let k = c.args.call.now in
    let ns = c.args.walk.now.nodes in
    let r = receiver_of ns k.receiver in
    let ts = map (known ns) k.args.now in
    let s = now c.args.walk.now in
    let z = called_broken W k.place r ts c.args.chosen.now s c.in-Some.broken (c.call_broken.ensures ns ∙ ap breaks_of c.in-Some.is) in
    subst (λ (x : Ran Typed). IfOk c.refused_by.result (λ at. x.has ≡ has c.refused_by.new.walk.nodes at)) (sym z) c.refused_by.ensures.value

pub returns-in-None-clause-state : goal.returns-in-None-clause-state
returns-in-None-clause-state c =
    let W = world_of c.args.scene.now in
    let k = c.args.call.now in
    let ns = c.args.walk.now.nodes in
    let r = receiver_of ns k.receiver in
    let ts = map (known ns) k.args.now in
    let s = now c.args.walk.now in
    let z = called_whole W k.place r ts c.args.chosen.now s (c.call_broken.ensures ns ∙ ap breaks_of c.in-None.is) in
    subst (λ (x : Ran Typed). OnOk c.call_typed.result (x.state ≡ now c.call_typed.new.walk)) (sym z) c.call_typed.ensures.state

pub returns-in-None-clause-value : goal.returns-in-None-clause-value
returns-in-None-clause-value c =
    let W = world_of c.args.scene.now in
    let k = c.args.call.now in
    let ns = c.args.walk.now.nodes in
    let r = receiver_of ns k.receiver in
    let ts = map (known ns) k.args.now in
    let s = now c.args.walk.now in
    let z = called_whole W k.place r ts c.args.chosen.now s (c.call_broken.ensures ns ∙ ap breaks_of c.in-None.is) in
    subst (λ (x : Ran Typed). IfOk c.call_typed.result (λ at. x.has ≡ has c.call_typed.new.walk.nodes at)) (sym z) c.call_typed.ensures.value
