use Rattle.std.proofs.Common.{◌≡◌, ◌∙◌, subst, List, IfOk, OnOk}
use Rattle.jc_types.specs.declared.ids.FieldId.{FieldId}
use Rattle.jc_exprs_nodes_spec.specs.Told.{ran}
use Rattle.jc_exprs_nodes.specs.Walks.{now}
use Rattle.jc_exprs_parts_spec.specs.Names.{field_behind}
use Rattle.jc_exprs_worlds.specs.Scenes.{world_of}
use Rattle.jc_exprs_located.specs.Locations.{has_located}
use Rattle.jc_exprs_names.proofs.behind.member_behind.Goals as goal

pub returns-clause-state : goal.returns-clause-state
returns-clause-state c =
    let s = now c.args.walk.now in
    let W = world_of c.args.scene.now in
    subst (λ (fs : List FieldId). OnOk c.field_behind.result ((ran (field_behind W c.args.place c.args.class fs) s).state ≡ now c.field_behind.new.walk)) (c.slice.ensures ∙ c.in_ok-fields.ensures)
    c.field_behind.ensures.state

pub returns-clause-value : goal.returns-clause-value
returns-clause-value c =
    let s = now c.args.walk.now in
    let W = world_of c.args.scene.now in
    subst (λ (fs : List FieldId). IfOk c.field_behind.result (λ l. (ran (field_behind W c.args.place c.args.class fs) s).has ≡ has_located c.field_behind.new.walk.nodes l)) (c.slice.ensures ∙ c.in_ok-fields.ensures)
    c.field_behind.ensures.value
