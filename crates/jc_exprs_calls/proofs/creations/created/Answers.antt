use Rattle.std.proofs.Common.{◌≡◌, List, [], ◌++◌, Some, ap, map, subst, sym, ◌∙◌}
use Rattle.std.specs.Prelude.{IfOk, OnOk}
use Rattle.jc_rules.specs.declared.rule.Refusal.{Refusal}
use Rattle.jc_exprs_nodes_spec.specs.Told.{Ran}
use Rattle.jc_exprs_nodes_spec.specs.Typeds.{Typed}
use Rattle.jc_exprs_nodes.specs.Walks.{as_breaks, has, known, now}
use Rattle.jc_exprs_spec.specs.Creations.{creation_breaks}
use Rattle.jc_exprs_worlds.specs.Scenes.{world_of}
use Rattle.jc_exprs_choosing.specs.Breaking.{breaks_of}
use Rattle.jc_exprs_choosing.specs.Choosing.{diamond_breaks, type_if}
use Rattle.jc_exprs_calls.proofs.Creates.{created_broken, created_whole}
use Rattle.jc_exprs_calls.proofs.creations.created.Goals as goal

pub returns-in-Some-clause-state : goal.returns-in-Some-clause-state
unfolding world_of
returns-in-Some-clause-state c =
    let T = c.args.scene.now.table.now in
    let n = c.args.creation.now in
    let ns = c.args.walk.now.nodes in
    let s = now c.args.walk.now in
    let f = c.no_objects-first.ensures in
    let g = c.no_parameters-second.ensures in
    let e : creation_breaks T n.place n.ty.now n.diamond ≡ breaks_of (Some c.in-Some.broken) = ap (λ (xs : List Refusal). xs ++ diamond_breaks T n.place n.ty.now n.diamond) (sym f)
    ∙ ap (λ (xs : List Refusal). as_breaks c.no_objects-first.result ++ xs) (sym g) ∙ c.broken_of.ensures ∙ ap breaks_of c.in-Some.is in
    let z = created_broken (world_of c.args.scene.now) n.place n.ty.now n.diamond (type_if ns c.args.target) (map (known ns) c.args.args.now) s c.in-Some.broken e in
    subst (λ (x : Ran Typed). OnOk c.refused_by.result (x.state ≡ now c.refused_by.new.walk)) (sym z) c.refused_by.ensures.state

pub returns-in-Some-clause-value : goal.returns-in-Some-clause-value
unfolding world_of
returns-in-Some-clause-value c =
    let T = c.args.scene.now.table.now in
    let n = c.args.creation.now in
    let ns = c.args.walk.now.nodes in
    let s = now c.args.walk.now in
    let f = c.no_objects-first.ensures in
    let g = c.no_parameters-second.ensures in
    let e : creation_breaks T n.place n.ty.now n.diamond ≡ breaks_of (Some c.in-Some.broken) = ap (λ (xs : List Refusal). xs ++ diamond_breaks T n.place n.ty.now n.diamond) (sym f)
    ∙ ap (λ (xs : List Refusal). as_breaks c.no_objects-first.result ++ xs) (sym g) ∙ c.broken_of.ensures ∙ ap breaks_of c.in-Some.is in
    let z = created_broken (world_of c.args.scene.now) n.place n.ty.now n.diamond (type_if ns c.args.target) (map (known ns) c.args.args.now) s c.in-Some.broken e in
    subst (λ (x : Ran Typed). IfOk c.refused_by.result (λ at. x.has ≡ has c.refused_by.new.walk.nodes at)) (sym z) c.refused_by.ensures.value

pub returns-in-None-clause-state : goal.returns-in-None-clause-state
unfolding world_of
returns-in-None-clause-state c =
    let T = c.args.scene.now.table.now in
    let n = c.args.creation.now in
    let ns = c.args.walk.now.nodes in
    let s = now c.args.walk.now in
    let f = c.no_objects-first.ensures in
    let g = c.no_parameters-second.ensures in
    let e : creation_breaks T n.place n.ty.now n.diamond ≡ [] = ap (λ (xs : List Refusal). xs ++ diamond_breaks T n.place n.ty.now n.diamond) (sym f)
    ∙ ap (λ (xs : List Refusal). as_breaks c.no_objects-first.result ++ xs) (sym g) ∙ c.broken_of.ensures ∙ ap breaks_of c.in-None.is in
    let z = created_whole (world_of c.args.scene.now) n.place n.ty.now n.diamond (type_if ns c.args.target) (map (known ns) c.args.args.now) s e in
    subst (λ (x : Ran Typed). OnOk c.created_of.result (x.state ≡ now c.created_of.new.walk)) (sym z) c.created_of.ensures.state

pub returns-in-None-clause-value : goal.returns-in-None-clause-value
unfolding world_of
returns-in-None-clause-value c =
    let T = c.args.scene.now.table.now in
    let n = c.args.creation.now in
    let ns = c.args.walk.now.nodes in
    let s = now c.args.walk.now in
    let f = c.no_objects-first.ensures in
    let g = c.no_parameters-second.ensures in
    let e : creation_breaks T n.place n.ty.now n.diamond ≡ [] = ap (λ (xs : List Refusal). xs ++ diamond_breaks T n.place n.ty.now n.diamond) (sym f)
    ∙ ap (λ (xs : List Refusal). as_breaks c.no_objects-first.result ++ xs) (sym g) ∙ c.broken_of.ensures ∙ ap breaks_of c.in-None.is in
    let z = created_whole (world_of c.args.scene.now) n.place n.ty.now n.diamond (type_if ns c.args.target) (map (known ns) c.args.args.now) s e in
    subst (λ (x : Ran Typed). IfOk c.created_of.result (λ at. x.has ≡ has c.created_of.new.walk.nodes at)) (sym z) c.created_of.ensures.value
