use Rattle.std.proofs.Common.{◌≡◌, subst, IfOk, OnOk}
use Rattle.jc_exprs_nodes_spec.specs.Told.{ran}
use Rattle.jc_exprs_nodes.specs.Walks.{now}
use Rattle.jc_exprs_parts_spec.specs.Names.{located_sense}
use Rattle.jc_exprs_parts_spec.specs.Senses.{Sense}
use Rattle.jc_exprs_worlds.specs.Scenes.{world_of}
use Rattle.jc_exprs_located.specs.Locations.{has_located}
use Rattle.jc_exprs_names.proofs.simple.located_outside.Goals as goal

pub returns-clause-state : goal.returns-clause-state
returns-clause-state c =
    let s = now c.args.walk.now in
    let W = world_of c.args.scene.now in
    subst (λ (x : Sense). OnOk c.located_sense.result ((ran (located_sense W c.args.place x) s).state ≡ now c.located_sense.new.walk)) c.in_ok-sense.ensures c.located_sense.ensures.state

pub returns-clause-value : goal.returns-clause-value
returns-clause-value c =
    let s = now c.args.walk.now in
    let W = world_of c.args.scene.now in
    subst (λ (x : Sense). IfOk c.located_sense.result (λ l. (ran (located_sense W c.args.place x) s).has ≡ has_located c.located_sense.new.walk.nodes l)) c.in_ok-sense.ensures c.located_sense.ensures.value
