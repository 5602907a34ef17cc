use Rattle.std.proofs.Common.{◌≡◌, ap, sym, ◌∙◌, subst, IfOk, OnOk}
use Rattle.jc_exprs_nodes_spec.specs.Told.{Ran}
use Rattle.jc_exprs_nodes_spec.proofs.Runs.{ran_fine}
use Rattle.jc_exprs_nodes.specs.Walks.{now}
use Rattle.jc_exprs_locals.specs.Scoped.{local_of}
use Rattle.jc_exprs_parts_spec.specs.Names.{AtLocal, Located}
use Rattle.jc_exprs_worlds.specs.Scenes.{world_of}
use Rattle.jc_exprs_located.specs.Locations.{has_located}
use Rattle.jc_exprs_names.proofs.Locals.{local_found, no_local_found}
use Rattle.jc_exprs_names.proofs.simple.simple_located.Goals as goal

pub returns-in-Some-clause-state : goal.returns-in-Some-clause-state
returns-in-Some-clause-state c =
    let s = now c.args.walk.now in
    let l = local_of c.in-Some.local.now in
    ap (λ (r : Ran Located). r.state) (local_found (world_of c.args.scene.now) c.args.place c.args.name.now s l c.in-Some.ensures ∙ ran_fine (AtLocal c.args.place l) s)

pub returns-in-Some-clause-value : goal.returns-in-Some-clause-value
returns-in-Some-clause-value c =
    let s = now c.args.walk.now in
    let l = local_of c.in-Some.local.now in
    ap (λ (r : Ran Located). r.has) (local_found (world_of c.args.scene.now) c.args.place c.args.name.now s l c.in-Some.ensures ∙ ran_fine (AtLocal c.args.place l) s)

pub returns-in-None-clause-state : goal.returns-in-None-clause-state
returns-in-None-clause-state c =
    let e = no_local_found (world_of c.args.scene.now) c.args.place c.args.name.now (now c.args.walk.now) c.in-None.ensures in
    subst (λ (r : Ran Located). OnOk c.located_outside.result (r.state ≡ now c.located_outside.new.walk)) (sym e) c.located_outside.ensures.state

pub returns-in-None-clause-value : goal.returns-in-None-clause-value
returns-in-None-clause-value c =
    let e = no_local_found (world_of c.args.scene.now) c.args.place c.args.name.now (now c.args.walk.now) c.in-None.ensures in
    subst (λ (r : Ran Located). IfOk c.located_outside.result (λ l. r.has ≡ has_located c.located_outside.new.walk.nodes l)) (sym e) c.located_outside.ensures.value
