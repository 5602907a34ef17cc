use Rattle.std.proofs.Common.{◌≡◌, ap, map, subst, sym, ◌∙◌}
use Rattle.std.specs.Prelude.{IfOk, OnOk}
use Rattle.jc_exprs_nodes_spec.specs.Told.{Ran}
use Rattle.jc_exprs_nodes_spec.specs.Typeds.{Typed}
use Rattle.jc_exprs_nodes.specs.Walks.{as_breaks, has, known, now}
use Rattle.jc_exprs_worlds.specs.Scenes.{world_of}
use Rattle.jc_exprs_choosing.specs.Choosing.{type_if}
use Rattle.jc_exprs_calls.proofs.Asks.{super_broken, super_whole}
use Rattle.jc_exprs_calls.proofs.finding.call_super.Goals as goal

pub returns-in-Some-clause-state : goal.returns-in-Some-clause-state
unfolding world_of
returns-in-Some-clause-state c =
    let W = world_of c.args.methods.now.scene.now in
    let n = c.args.named.now in
    let ns = c.args.walk.now.nodes in
    let ts = map (known ns) n.args.now in
    let s = now c.args.walk.now in
    let z = super_broken W n.place n.name.now c.args.explicit.now (type_if ns n.target) ts s c.in-Some.break_of (c.instance_break.ensures ∙ ap as_breaks c.in-Some.is) in
    subst (λ (x : Ran Typed). OnOk c.refused.result (x.state ≡ now c.refused.new.walk)) (sym z) c.refused.ensures.state

pub returns-in-Some-clause-value : goal.returns-in-Some-clause-value
unfolding world_of
returns-in-Some-clause-value c =
    let W = world_of c.args.methods.now.scene.now in
    let n = c.args.named.now in
    let ns = c.args.walk.now.nodes in
    let ts = map (known ns) n.args.now in
    let s = now c.args.walk.now in
    let z = super_broken W n.place n.name.now c.args.explicit.now (type_if ns n.target) ts s c.in-Some.break_of (c.instance_break.ensures ∙ ap as_breaks c.in-Some.is) in
    subst (λ (x : Ran Typed). IfOk c.refused.result (λ at. x.has ≡ has c.refused.new.walk.nodes at)) (sym z) c.refused.ensures.value

pub returns-in-None-clause-state : goal.returns-in-None-clause-state
unfolding world_of
returns-in-None-clause-state c =
    let W = world_of c.args.methods.now.scene.now in
    let n = c.args.named.now in
    let ns = c.args.walk.now.nodes in
    let ts = map (known ns) n.args.now in
    let s = now c.args.walk.now in
    let z = super_whole W n.place n.name.now c.args.explicit.now (type_if ns n.target) ts s (c.instance_break.ensures ∙ ap as_breaks c.in-None.is) in
    subst (λ (x : Ran Typed). OnOk c.super_called.result (x.state ≡ now c.super_called.new.walk)) (sym z) c.super_called.ensures.state

pub returns-in-None-clause-value : goal.returns-in-None-clause-value
unfolding world_of
returns-in-None-clause-value c =
    let W = world_of c.args.methods.now.scene.now in
    let n = c.args.named.now in
    let ns = c.args.walk.now.nodes in
    let ts = map (known ns) n.args.now in
    let s = now c.args.walk.now in
    let z = super_whole W n.place n.name.now c.args.explicit.now (type_if ns n.target) ts s (c.instance_break.ensures ∙ ap as_breaks c.in-None.is) in
    subst (λ (x : Ran Typed). IfOk c.super_called.result (λ at. x.has ≡ has c.super_called.new.walk.nodes at)) (sym z) c.super_called.ensures.value
