use Rattle.std.proofs.Common.{◌≡◌, ap, map, subst, ◌∙◌}
use Rattle.std.specs.Prelude.{IfOk, OnOk}
use Rattle.jc_exprs_nodes_spec.specs.Told.{Ran}
use Rattle.jc_exprs_nodes_spec.specs.Typeds.{Typed}
use Rattle.jc_exprs_nodes.specs.Walks.{has, known, now}
use Rattle.jc_exprs_gathering.specs.Gathered.{where_all}
use Rattle.jc_exprs_spec.specs.Creations.{created}
use Rattle.jc_exprs_worlds.specs.Scenes.{world_of}
use Rattle.jc_exprs_call_gates.proofs.Wanting.{asked_whole, wanted_below}
use Rattle.jc_exprs_call_gates.proofs.creations.created_or.Goals as goal

pub created-requires-clause-target : goal.created-requires-clause-target
created-requires-clause-target c = wanted_below c.args.walk.now.nodes c.args.target c.requires.target

pub returns-clause-state : goal.returns-clause-state
returns-clause-state c =
    let W = world_of c.args.scene.now in
    let n = c.args.creation.now in
    let ns = c.args.walk.now.nodes in
    let ts = map (known ns) c.args.args.now in
    let h = c.are_typed.ensures.value ∙ ap (λ x. where_all x ts) c.if-not-are_typed.false in
    let z = asked_whole ns c.args.target c.args.args.now (now c.args.walk.now) (λ o us. created W n.place n.ty.now n.diamond o us) ts h in
    subst (λ (r : Ran Typed). OnOk c.created.result (r.state ≡ now c.created.new.walk)) z c.created.ensures.state

pub returns-clause-value : goal.returns-clause-value
returns-clause-value c =
    let W = world_of c.args.scene.now in
    let n = c.args.creation.now in
    let ns = c.args.walk.now.nodes in
    let ts = map (known ns) c.args.args.now in
    let h = c.are_typed.ensures.value ∙ ap (λ x. where_all x ts) c.if-not-are_typed.false in
    let z = asked_whole ns c.args.target c.args.args.now (now c.args.walk.now) (λ o us. created W n.place n.ty.now n.diamond o us) ts h in
    subst (λ (r : Ran Typed). IfOk c.created.result (λ at. r.has ≡ has c.created.new.walk.nodes at)) z c.created.ensures.value
