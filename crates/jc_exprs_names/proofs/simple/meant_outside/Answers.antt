use Rattle.std.proofs.Common.{◌≡◌, subst, IfOk, OnOk}
use Rattle.jc_exprs_nodes_spec.specs.Told.{ran}
use Rattle.jc_exprs_nodes.specs.Walks.{now}
use Rattle.jc_exprs_parts_spec.specs.Names.{sense_meant}
use Rattle.jc_exprs_parts_spec.specs.Senses.{Sense}
use Rattle.jc_exprs_worlds.specs.Scenes.{world_of}
use Rattle.jc_exprs_meanings.specs.Meant.{has_meaning}
use Rattle.jc_exprs_names.proofs.simple.meant_outside.Goals as goal

pub returns-clause-state : goal.returns-clause-state
returns-clause-state c =
    let s = now c.args.walk.now in
    let W = world_of c.args.scene.now in
    subst (λ (x : Sense). OnOk c.sense_meant.result ((ran (sense_meant W c.args.place x) s).state ≡ now c.sense_meant.new.walk)) c.in_ok-sense.ensures c.sense_meant.ensures.state

pub returns-clause-value : goal.returns-clause-value
returns-clause-value c =
    let s = now c.args.walk.now in
    let W = world_of c.args.scene.now in
    subst (λ (x : Sense). IfOk c.sense_meant.result (λ m. (ran (sense_meant W c.args.place x) s).has ≡ has_meaning c.sense_meant.new.walk.nodes m)) c.in_ok-sense.ensures c.sense_meant.ensures.value
