use Rattle.std.proofs.Common.{◌≡◌, map, subst, ◌∙◌}
use Rattle.std.specs.Prelude.{IfOk, OnOk}
use Rattle.jc_resolve.specs.declared.choice.Chosen.{Chosen}
use Rattle.jc_exprs_nodes_spec.specs.Told.{Run, ran}
use Rattle.jc_exprs_nodes.specs.Walks.{known, now}
use Rattle.jc_exprs_worlds.specs.Scenes.{world_of}
use Rattle.jc_exprs_choosing.specs.Choosing.{type_if}
use Rattle.jc_exprs_calls.proofs.Creates.{diamond_chosen}
use Rattle.jc_exprs_calls.proofs.choosing.chosen_for_diamond.Goals as goal

pub returns-clause-state : goal.returns-clause-state
unfolding world_of
returns-clause-state c =
    let W = world_of c.args.scene.now in
    let ns = c.args.walk.now.nodes in
    let n = c.args.creation.now in
    let m = diamond_chosen W n.place n.ty.now (map (known ns) c.args.args.now) (type_if ns c.args.target) c.slice-found.result.now c.in_ok-nameable.nameable c.new-none.result c.in_ok-site.site
    (c.slice-found.ensures ∙ c.in_ok-all.ensures) c.in_ok-nameable.ensures c.new-none.ensures c.in_ok-site.ensures in
    subst (λ (q : Run Chosen). OnOk c.chosen_by_diamond.result ((ran q (now c.args.walk.now)).state ≡ now c.chosen_by_diamond.new.walk)) m c.chosen_by_diamond.ensures.state

pub returns-clause-value : goal.returns-clause-value
unfolding world_of
returns-clause-value c =
    let W = world_of c.args.scene.now in
    let ns = c.args.walk.now.nodes in
    let n = c.args.creation.now in
    let m = diamond_chosen W n.place n.ty.now (map (known ns) c.args.args.now) (type_if ns c.args.target) c.slice-found.result.now c.in_ok-nameable.nameable c.new-none.result c.in_ok-site.site
    (c.slice-found.ensures ∙ c.in_ok-all.ensures) c.in_ok-nameable.ensures c.new-none.ensures c.in_ok-site.ensures in
    subst (λ (q : Run Chosen). IfOk c.chosen_by_diamond.result (λ d. (ran q (now c.args.walk.now)).has ≡ d)) m c.chosen_by_diamond.ensures.value
