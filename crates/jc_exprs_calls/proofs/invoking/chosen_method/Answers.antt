use Rattle.std.proofs.Common.{◌≡◌, map, subst, sym, ◌∙◌}
use Rattle.std.specs.Prelude.{IfOk, OnOk}
use Rattle.jc_resolve.specs.declared.choice.Chosen.{Chosen}
use Rattle.jc_exprs_nodes_spec.specs.Told.{Run, ran}
use Rattle.jc_exprs_nodes.specs.Walks.{as_breaks, known, now}
use Rattle.jc_exprs_worlds.specs.Scenes.{world_of}
use Rattle.jc_exprs_choosing.specs.Choosing.{type_if}
use Rattle.jc_exprs_calls.specs.Receivers.{receiver_of}
use Rattle.jc_exprs_calls.proofs.Callings.{method_chosen, methods_found}
use Rattle.jc_exprs_calls.proofs.invoking.chosen_method.Goals as goal

pub returns-clause-state : goal.returns-clause-state
unfolding world_of
returns-clause-state c =
    let W = world_of c.args.methods.now.scene.now in
    let n = c.args.named.now in
    let ns = c.args.walk.now.nodes in
    let r = receiver_of ns c.args.receiver in
    let all = c.slice-found.result.now in
    let found = methods_found W r n.name.now c.is_by_bounds-by_bounds.result c.in_ok-ty.ty c.in_ok-all.all (c.is_by_bounds-by_bounds.ensures W ns n.name.now) c.in_ok-ty.ensures c.in_ok-all.ensures in
    let m = method_chosen W n.place r n.name.now c.args.explicit.now (map (known ns) n.args.now) (type_if ns n.target) c.in_ok-ty.ty all c.in_ok-nameable.nameable
    (as_breaks c.in_ok-broken.broken) c.in_ok-explicit.explicit c.in_ok-site.site c.in_ok-ty.ensures (c.slice-found.ensures ∙ found) c.in_ok-nameable.ensures
    (sym c.in_ok-broken.ensures) c.in_ok-explicit.ensures c.in_ok-site.ensures in
    subst (λ (q : Run Chosen). OnOk c.chosen.result ((ran q (now c.args.walk.now)).state ≡ now c.chosen.new.walk)) m c.chosen.ensures.state

pub returns-clause-value : goal.returns-clause-value
unfolding world_of
returns-clause-value c =
    let W = world_of c.args.methods.now.scene.now in
    let n = c.args.named.now in
    let ns = c.args.walk.now.nodes in
    let r = receiver_of ns c.args.receiver in
    let all = c.slice-found.result.now in
    let found = methods_found W r n.name.now c.is_by_bounds-by_bounds.result c.in_ok-ty.ty c.in_ok-all.all (c.is_by_bounds-by_bounds.ensures W ns n.name.now) c.in_ok-ty.ensures c.in_ok-all.ensures in
    let m = method_chosen W n.place r n.name.now c.args.explicit.now (map (known ns) n.args.now) (type_if ns n.target) c.in_ok-ty.ty all c.in_ok-nameable.nameable
    (as_breaks c.in_ok-broken.broken) c.in_ok-explicit.explicit c.in_ok-site.site c.in_ok-ty.ensures (c.slice-found.ensures ∙ found) c.in_ok-nameable.ensures
    (sym c.in_ok-broken.ensures) c.in_ok-explicit.ensures c.in_ok-site.ensures in
    subst (λ (q : Run Chosen). IfOk c.chosen.result (λ d. (ran q (now c.args.walk.now)).has ≡ d)) m c.chosen.ensures.value
