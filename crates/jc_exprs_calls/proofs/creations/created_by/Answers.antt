use Rattle.std.proofs.Common.{◌≡◌, map, subst, sym}
use Rattle.std.specs.Prelude.{IfOk, OnOk}
use Rattle.jc_typed.specs.Trees.{Form}
use Rattle.jc_exprs_nodes_spec.specs.Told.{Ran, ran}
use Rattle.jc_exprs_nodes_spec.specs.Typeds.{Typed, captured}
use Rattle.jc_exprs_nodes.specs.Walks.{has, known, now}
use Rattle.jc_exprs_worlds.specs.Scenes.{world_of}
use Rattle.jc_exprs_spec.specs.Creations.{created_lead, created_type}
use Rattle.jc_exprs_calls.proofs.Creates.{created_formed}
use Rattle.jc_exprs_calls.proofs.creations.created_by.Goals as goal

pub returns-clause-state : goal.returns-clause-state
unfolding world_of
returns-clause-state c =
    let T = c.args.scene.now.table.now in
    let n = c.args.creation.now in
    let h = c.args.chosen.now in
    let s = now c.args.walk.now in
    let z = created_formed (world_of c.args.scene.now) n.place n.ty.now n.diamond (map (known c.args.walk.now.nodes) c.args.args.now) h s in
    subst (λ (x : Ran Typed). OnOk c.created_form.result (x.state ≡ now c.created_form.new.walk)) (sym z)
    (subst
    (λ (f : Form). OnOk c.created_form.result ((ran (captured T n.place (created_type n.ty.now n.diamond h.kept) f (created_lead (created_type n.ty.now n.diamond h.kept) n.diamond h.result)) s).state
    ≡ now c.created_form.new.walk)) c.in_ok-form.ensures.value c.created_form.ensures.state)

pub returns-clause-value : goal.returns-clause-value
unfolding world_of
returns-clause-value c =
    let T = c.args.scene.now.table.now in
    let n = c.args.creation.now in
    let h = c.args.chosen.now in
    let s = now c.args.walk.now in
    let z = created_formed (world_of c.args.scene.now) n.place n.ty.now n.diamond (map (known c.args.walk.now.nodes) c.args.args.now) h s in
    subst (λ (x : Ran Typed). IfOk c.created_form.result (λ at. x.has ≡ has c.created_form.new.walk.nodes at)) (sym z)
    (subst
    (λ (f : Form). IfOk c.created_form.result (λ at. (ran (captured T n.place (created_type n.ty.now n.diamond h.kept) f (created_lead (created_type n.ty.now n.diamond h.kept) n.diamond h.result)) s).has
    ≡ has c.created_form.new.walk.nodes at)) c.in_ok-form.ensures.value c.created_form.ensures.value)
