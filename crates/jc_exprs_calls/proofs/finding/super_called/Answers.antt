use Rattle.std.proofs.Common.{◌≡◌, Option, ap, map, subst, sym, ◌∙◌}
use Rattle.std.specs.Prelude.{IfOk, OnOk}
use Rattle.std.specs.Option.{option_copied}
use Rattle.jc_types.specs.declared.form.Ty.{Ty}
use Rattle.jc_exprs_nodes_spec.specs.Told.{ran}
use Rattle.jc_exprs_nodes.specs.Walks.{has, known, now}
use Rattle.jc_exprs_spec.specs.Calls.{super_called}
use Rattle.jc_exprs_worlds.specs.Scenes.{world_of}
use Rattle.jc_exprs_choosing.specs.Choosing.{type_if}
use Rattle.jc_exprs_calls.proofs.finding.super_called.Goals as goal

pub returns-in-None-clause-state : goal.returns-in-None-clause-state
unfolding world_of
returns-in-None-clause-state c =
    let W = world_of c.args.methods.now.scene.now in
    let n = c.args.named.now in
    let ns = c.args.walk.now.nodes in
    let s = now c.args.walk.now in
    let ts = map (known ns) n.args.now in
    let x = c.args.explicit.now in
    let target = type_if ns n.target in
    subst (λ (o : Option Ty). OnOk c.broken.result ((ran (super_called W n.place n.name.now x target ts o) s).state ≡ now c.broken.new.walk)) (sym (sym c.super_type.ensures ∙ ap (λ o. option_copied o) c.in-None.is)) c.broken.ensures.state

pub returns-in-None-clause-value : goal.returns-in-None-clause-value
unfolding world_of
returns-in-None-clause-value c =
    let W = world_of c.args.methods.now.scene.now in
    let n = c.args.named.now in
    let ns = c.args.walk.now.nodes in
    let s = now c.args.walk.now in
    let ts = map (known ns) n.args.now in
    let x = c.args.explicit.now in
    let target = type_if ns n.target in
    subst (λ (o : Option Ty). IfOk c.broken.result (λ at. (ran (super_called W n.place n.name.now x target ts o) s).has ≡ has c.broken.new.walk.nodes at)) (sym (sym c.super_type.ensures ∙ ap (λ o. option_copied o) c.in-None.is)) c.broken.ensures.value

pub returns-in-Some-clause-state : goal.returns-in-Some-clause-state
unfolding world_of
returns-in-Some-clause-state c =
    let W = world_of c.args.methods.now.scene.now in
    let n = c.args.named.now in
    let ns = c.args.walk.now.nodes in
    let s = now c.args.walk.now in
    let ts = map (known ns) n.args.now in
    let x = c.args.explicit.now in
    let target = type_if ns n.target in
    subst (λ (o : Option Ty). OnOk c.called_above.result ((ran (super_called W n.place n.name.now x target ts o) s).state ≡ now c.called_above.new.walk)) (sym (sym c.super_type.ensures ∙ ap (λ o. option_copied o) c.in-Some.is)) c.called_above.ensures.state

pub returns-in-Some-clause-value : goal.returns-in-Some-clause-value
unfolding world_of
returns-in-Some-clause-value c =
    let W = world_of c.args.methods.now.scene.now in
    let n = c.args.named.now in
    let ns = c.args.walk.now.nodes in
    let s = now c.args.walk.now in
    let ts = map (known ns) n.args.now in
    let x = c.args.explicit.now in
    let target = type_if ns n.target in
    subst (λ (o : Option Ty). IfOk c.called_above.result (λ at. (ran (super_called W n.place n.name.now x target ts o) s).has ≡ has c.called_above.new.walk.nodes at)) (sym (sym c.super_type.ensures ∙ ap (λ o. option_copied o) c.in-Some.is)) c.called_above.ensures.value
