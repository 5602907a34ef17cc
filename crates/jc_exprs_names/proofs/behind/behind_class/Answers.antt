use Rattle.std.proofs.Common.{◌≡◌, subst, IfOk, OnOk}
use Rattle.jc_exprs_nodes_spec.specs.Told.{ran}
use Rattle.jc_exprs_nodes.specs.Walks.{now}
use Rattle.jc_exprs_parts_spec.specs.Names.{sense_behind}
use Rattle.jc_exprs_parts_spec.specs.Senses.{Sense}
use Rattle.jc_exprs_worlds.specs.Scenes.{world_of}
use Rattle.jc_exprs_meanings.specs.Meant.{has_meaning}
use Rattle.jc_exprs_names.proofs.behind.behind_class.Goals as goal

pub returns-clause-state : goal.returns-clause-state
returns-clause-state c =
    let s = now c.args.walk.now in
    let W = world_of c.args.scene.now in
    subst (λ (x : Sense). OnOk c.sense_behind.result ((ran (sense_behind W c.args.place c.args.class x) s).state ≡ now c.sense_behind.new.walk)) c.in_ok-sense.ensures c.sense_behind.ensures.state

pub returns-clause-value : goal.returns-clause-value
returns-clause-value c =
    let s = now c.args.walk.now in
    let W = world_of c.args.scene.now in
    subst (λ (x : Sense). IfOk c.sense_behind.result (λ m. (ran (sense_behind W c.args.place c.args.class x) s).has ≡ has_meaning c.sense_behind.new.walk.nodes m)) c.in_ok-sense.ensures
    c.sense_behind.ensures.value
