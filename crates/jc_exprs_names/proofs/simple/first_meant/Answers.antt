use Rattle.std.proofs.Common.{◌≡◌, sym, subst, IfOk, OnOk}
use Rattle.jc_exprs_nodes_spec.specs.Told.{Ran}
use Rattle.jc_exprs_nodes.specs.Walks.{now}
use Rattle.jc_exprs_locals.specs.Scoped.{local_of}
use Rattle.jc_exprs_parts_spec.specs.Names.{Meaning}
use Rattle.jc_exprs_worlds.specs.Scenes.{world_of}
use Rattle.jc_exprs_meanings.specs.Meant.{has_meaning}
use Rattle.jc_exprs_names.proofs.Locals.{local_first, no_local_first}
use Rattle.jc_exprs_names.proofs.simple.first_meant.Goals as goal

pub returns-in-Some-clause-state : goal.returns-in-Some-clause-state
returns-in-Some-clause-state c =
    let e = local_first (world_of c.args.scene.now) c.args.place c.args.name.now (now c.args.walk.now) (local_of c.in-Some.local.now) c.in-Some.ensures in
    subst (λ (r : Ran Meaning). OnOk c.local_meant.result (r.state ≡ now c.local_meant.new.walk)) (sym e) c.local_meant.ensures.state

pub returns-in-Some-clause-value : goal.returns-in-Some-clause-value
returns-in-Some-clause-value c =
    let e = local_first (world_of c.args.scene.now) c.args.place c.args.name.now (now c.args.walk.now) (local_of c.in-Some.local.now) c.in-Some.ensures in
    subst (λ (r : Ran Meaning). IfOk c.local_meant.result (λ m. r.has ≡ has_meaning c.local_meant.new.walk.nodes m)) (sym e) c.local_meant.ensures.value

pub returns-in-None-clause-state : goal.returns-in-None-clause-state
returns-in-None-clause-state c =
    let e = no_local_first (world_of c.args.scene.now) c.args.place c.args.name.now (now c.args.walk.now) c.in-None.ensures in
    subst (λ (r : Ran Meaning). OnOk c.meant_outside.result (r.state ≡ now c.meant_outside.new.walk)) (sym e) c.meant_outside.ensures.state

pub returns-in-None-clause-value : goal.returns-in-None-clause-value
returns-in-None-clause-value c =
    let e = no_local_first (world_of c.args.scene.now) c.args.place c.args.name.now (now c.args.walk.now) c.in-None.ensures in
    subst (λ (r : Ran Meaning). IfOk c.meant_outside.result (λ m. r.has ≡ has_meaning c.meant_outside.new.walk.nodes m)) (sym e) c.meant_outside.ensures.value
