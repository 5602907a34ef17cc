use Rattle.std.proofs.Common.{◌≡◌, List, map, subst, sym, ◌∙◌}
use Rattle.std.specs.Prelude.{IfOk, OnOk}
use Rattle.jc_typed.specs.declared.nodes.Node.{Node}
use Rattle.jc_typed.specs.Parts.{Grows}
use Rattle.jc_exprs_nodes_spec.specs.Told.{Ran, ran}
use Rattle.jc_exprs_nodes_spec.specs.Typeds.{Typed}
use Rattle.jc_exprs_nodes.specs.Walks.{has, known, now}
use Rattle.jc_exprs_gathering.specs.Gathered.{AllParts}
use Rattle.jc_exprs_worlds.specs.Scenes.{world_of}
use Rattle.std.proofs.Common.{Bool}
use Rattle.jc_exprs_choosing.specs.Choosing.{type_if}
use Rattle.jc_exprs_spec.specs.Creations.{created_by}
use Rattle.jc_exprs_calls.proofs.Creates.{created_none, created_some}
use Rattle.jc_exprs_calls.proofs.creations.created_plain.Goals as goal

pub created_by-requires : goal.created_by-requires
created_by-requires c = subst (λ (ns : List Node). AllParts ns c.args.args.now) (sym c.in_ok-chosen_constructor.ensures.nodes) c.requires.args

pub returns-in-None-clause-state : goal.returns-in-None-clause-state
returns-in-None-clause-state c =
    let W = world_of c.args.scene.now in
    let n = c.args.creation.now in
    let ns = c.args.walk.now.nodes in
    let ts = map (known ns) c.args.args.now in
    let target = type_if ns c.args.target in
    let z = created_none W n.place n.ty.now ts target (now c.args.walk.now) (now c.chosen_constructor.new.walk) c.in_ok-chosen_constructor.ensures.state (c.in_ok-chosen_constructor.ensures.value ∙ c.in-None.is) in
    subst (λ (x : Ran Typed). OnOk c.missing.result (x.state ≡ now c.missing.new.walk)) (sym z) c.missing.ensures.state

pub returns-in-None-clause-value : goal.returns-in-None-clause-value
returns-in-None-clause-value c =
    let W = world_of c.args.scene.now in
    let n = c.args.creation.now in
    let ns = c.args.walk.now.nodes in
    let ts = map (known ns) c.args.args.now in
    let target = type_if ns c.args.target in
    let z = created_none W n.place n.ty.now ts target (now c.args.walk.now) (now c.chosen_constructor.new.walk) c.in_ok-chosen_constructor.ensures.state (c.in_ok-chosen_constructor.ensures.value ∙ c.in-None.is) in
    subst (λ (x : Ran Typed). IfOk c.missing.result (λ at. x.has ≡ has c.missing.new.walk.nodes at)) (sym z) c.missing.ensures.value

pub returns-in-None-clause-grows : goal.returns-in-None-clause-grows
returns-in-None-clause-grows c = subst (λ (ns : List Node). Grows ns c.missing.new.walk.nodes) c.in_ok-chosen_constructor.ensures.nodes c.missing.ensures.grows

pub returns-in-Some-clause-state : goal.returns-in-Some-clause-state
returns-in-Some-clause-state c =
    let W = world_of c.args.scene.now in
    let n = c.args.creation.now in
    let ns = c.args.walk.now.nodes in
    let ts = map (known ns) c.args.args.now in
    let target = type_if ns c.args.target in
    let z = created_some W n.place n.ty.now ts target (now c.args.walk.now) (now c.chosen_constructor.new.walk) c.in-Some.chosen c.in_ok-chosen_constructor.ensures.state (c.in_ok-chosen_constructor.ensures.value ∙ c.in-Some.is) in
    let mid = now c.chosen_constructor.new.walk in
    subst (λ (x : Ran Typed). OnOk c.created_by.result (x.state ≡ now c.created_by.new.walk)) (sym z)
    (subst (λ (d : Bool). OnOk c.created_by.result ((ran (created_by W n.place n.ty.now d ts c.in-Some.chosen) mid).state ≡ now c.created_by.new.walk)) c.requires.plain
    (subst (λ (ms : List Node). OnOk c.created_by.result ((ran (created_by W n.place n.ty.now n.diamond (map (known ms) c.args.args.now) c.in-Some.chosen) mid).state ≡ now c.created_by.new.walk))
    c.in_ok-chosen_constructor.ensures.nodes c.created_by.ensures.state))

pub returns-in-Some-clause-value : goal.returns-in-Some-clause-value
returns-in-Some-clause-value c =
    let W = world_of c.args.scene.now in
    let n = c.args.creation.now in
    let ns = c.args.walk.now.nodes in
    let ts = map (known ns) c.args.args.now in
    let target = type_if ns c.args.target in
    let z = created_some W n.place n.ty.now ts target (now c.args.walk.now) (now c.chosen_constructor.new.walk) c.in-Some.chosen c.in_ok-chosen_constructor.ensures.state (c.in_ok-chosen_constructor.ensures.value ∙ c.in-Some.is) in
    let mid = now c.chosen_constructor.new.walk in
    subst (λ (x : Ran Typed). IfOk c.created_by.result (λ at. x.has ≡ has c.created_by.new.walk.nodes at)) (sym z)
    (subst (λ (d : Bool). IfOk c.created_by.result (λ at. (ran (created_by W n.place n.ty.now d ts c.in-Some.chosen) mid).has ≡ has c.created_by.new.walk.nodes at)) c.requires.plain
    (subst
    (λ (ms : List Node). IfOk c.created_by.result (λ at. (ran (created_by W n.place n.ty.now n.diamond (map (known ms) c.args.args.now) c.in-Some.chosen) mid).has ≡ has c.created_by.new.walk.nodes at))
    c.in_ok-chosen_constructor.ensures.nodes c.created_by.ensures.value))

pub returns-in-Some-clause-grows : goal.returns-in-Some-clause-grows
returns-in-Some-clause-grows c = subst (λ (ns : List Node). Grows ns c.created_by.new.walk.nodes) c.in_ok-chosen_constructor.ensures.nodes c.created_by.ensures.grows
