use Rattle.std.proofs.Common.{◌≡◌, List, map, subst, sym, ◌∙◌}
use Rattle.std.specs.Prelude.{IfOk, OnOk}
use Rattle.jc_typed.specs.declared.nodes.Node.{Node}
use Rattle.jc_typed.specs.Parts.{Grows}
use Rattle.jc_exprs_nodes_spec.specs.Told.{Ran, ran}
use Rattle.jc_exprs_nodes_spec.specs.Typeds.{Typed}
use Rattle.jc_exprs_nodes.specs.Walks.{has, known, now}
use Rattle.jc_exprs_gathering.specs.Gathered.{AllParts}
use Rattle.jc_exprs_worlds.specs.Scenes.{world_of}
use Rattle.jc_exprs_choosing.specs.Choosing.{type_if}
use Rattle.jc_exprs_spec.specs.Calls.{called_with}
use Rattle.jc_exprs_calls.specs.Receivers.{IsReceiver, receiver_of}
use Rattle.jc_exprs_calls.proofs.Callings.{called_none, called_some}
use Rattle.jc_exprs_calls.proofs.invoking.called.Goals as goal

-- the choice leaves the arena as it was

pub called_with-requires-clause-receiver : goal.called_with-requires-clause-receiver
called_with-requires-clause-receiver c = subst (λ (ns : List Node). IsReceiver ns c.args.receiver) (sym c.in_ok-chosen_method.ensures.nodes) c.requires.receiver

pub called_with-requires-clause-args : goal.called_with-requires-clause-args
called_with-requires-clause-args c = subst (λ (ns : List Node). AllParts ns c.args.named.now.args.now) (sym c.in_ok-chosen_method.ensures.nodes) c.requires.args

pub returns-in-None-clause-state : goal.returns-in-None-clause-state
returns-in-None-clause-state c =
    let W = world_of c.args.methods.now.scene.now in
    let n = c.args.named.now in
    let ns = c.args.walk.now.nodes in
    let z = called_none W n.place (receiver_of ns c.args.receiver) n.name.now c.args.explicit.now (map (known ns) n.args.now) (type_if ns n.target) (now c.args.walk.now) (now c.chosen_method.new.walk)
    c.in_ok-chosen_method.ensures.state (c.in_ok-chosen_method.ensures.value ∙ c.in-None.is) in
    subst (λ (x : Ran Typed). OnOk c.missing.result (x.state ≡ now c.missing.new.walk)) (sym z) c.missing.ensures.state

pub returns-in-None-clause-value : goal.returns-in-None-clause-value
returns-in-None-clause-value c =
    let W = world_of c.args.methods.now.scene.now in
    let n = c.args.named.now in
    let ns = c.args.walk.now.nodes in
    let z = called_none W n.place (receiver_of ns c.args.receiver) n.name.now c.args.explicit.now (map (known ns) n.args.now) (type_if ns n.target) (now c.args.walk.now) (now c.chosen_method.new.walk)
    c.in_ok-chosen_method.ensures.state (c.in_ok-chosen_method.ensures.value ∙ c.in-None.is) in
    subst (λ (x : Ran Typed). IfOk c.missing.result (λ at. x.has ≡ has c.missing.new.walk.nodes at)) (sym z) c.missing.ensures.value

pub returns-in-None-clause-grows : goal.returns-in-None-clause-grows
returns-in-None-clause-grows c = subst (λ (ns : List Node). Grows ns c.missing.new.walk.nodes) c.in_ok-chosen_method.ensures.nodes c.missing.ensures.grows

pub returns-in-Some-clause-state : goal.returns-in-Some-clause-state
returns-in-Some-clause-state c =
    let W = world_of c.args.methods.now.scene.now in
    let n = c.args.named.now in
    let ns = c.args.walk.now.nodes in
    let r = c.args.receiver in
    let mid = now c.chosen_method.new.walk in
    let z = called_some W n.place (receiver_of ns r) n.name.now c.args.explicit.now (map (known ns) n.args.now) (type_if ns n.target) (now c.args.walk.now) c.in-Some.chosen mid
    c.in_ok-chosen_method.ensures.state (c.in_ok-chosen_method.ensures.value ∙ c.in-Some.is) in
    subst (λ (x : Ran Typed). OnOk c.called_with.result (x.state ≡ now c.called_with.new.walk)) (sym z)
    (subst (λ (ms : List Node). OnOk c.called_with.result ((ran (called_with W n.place (receiver_of ms r) (map (known ms) n.args.now) c.in-Some.chosen) mid).state ≡ now c.called_with.new.walk))
    c.in_ok-chosen_method.ensures.nodes c.called_with.ensures.state)

pub returns-in-Some-clause-value : goal.returns-in-Some-clause-value
returns-in-Some-clause-value c =
    let W = world_of c.args.methods.now.scene.now in
    let n = c.args.named.now in
    let ns = c.args.walk.now.nodes in
    let r = c.args.receiver in
    let mid = now c.chosen_method.new.walk in
    let z = called_some W n.place (receiver_of ns r) n.name.now c.args.explicit.now (map (known ns) n.args.now) (type_if ns n.target) (now c.args.walk.now) c.in-Some.chosen mid
    c.in_ok-chosen_method.ensures.state (c.in_ok-chosen_method.ensures.value ∙ c.in-Some.is) in
    subst (λ (x : Ran Typed). IfOk c.called_with.result (λ at. x.has ≡ has c.called_with.new.walk.nodes at)) (sym z)
    (subst
    (λ (ms : List Node). IfOk c.called_with.result (λ at. (ran (called_with W n.place (receiver_of ms r) (map (known ms) n.args.now) c.in-Some.chosen) mid).has ≡ has c.called_with.new.walk.nodes at))
    c.in_ok-chosen_method.ensures.nodes c.called_with.ensures.value)

pub returns-in-Some-clause-grows : goal.returns-in-Some-clause-grows
returns-in-Some-clause-grows c = subst (λ (ns : List Node). Grows ns c.called_with.new.walk.nodes) c.in_ok-chosen_method.ensures.nodes c.called_with.ensures.grows
