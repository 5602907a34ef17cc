use Rattle.std.proofs.Common.{◌≡◌, ap, sym, ◌∙◌, subst, IfOk, OnOk}
use Rattle.jc_exprs_nodes_spec.specs.Told.{Ran, Run, fine}
use Rattle.jc_exprs_nodes.specs.Walks.{now}
use Rattle.jc_exprs_parts_spec.specs.Names.{Located}
use Rattle.jc_exprs_worlds.specs.Scenes.{world_of}
use Rattle.jc_exprs_located.specs.Locations.{has_located}
use Rattle.jc_exprs_located.proofs.Gating.{fails, passes}
use Rattle.jc_exprs_settling.specs.Settlings.{settled_of}
use Rattle.jc_exprs_parts_spec.specs.Fields.{may_name_field}
use Rattle.jc_exprs_parts_spec.specs.Names.{AtField}
use Rattle.jc_exprs_located.specs.Locations.{field_of_settled}
use Rattle.jc_exprs_located.proofs.members.open_field.Goals as goal

pub returns-then-may_name_field-clause-state : goal.returns-then-may_name_field-clause-state
returns-then-may_name_field-clause-state c =
    let s = now c.args.walk.now in
    let W = world_of c.args.scene.now in
    let t = settled_of c.args.walk.now.nodes c.args.settled in
    let m : Run Located = fine (AtField (field_of_settled c.args.scene.now.table.now c.args.walk.now.env.bounds c.args.place t c.args.field)) in
    let e = ap (λ u. may_name_field W u c.args.field) c.ty.ensures ∙ sym c.may_name_field.ensures in
    subst (λ (r : Ran Located). OnOk c.field_of.result (r.state ≡ now c.field_of.new.walk)) (sym (passes (may_name_field W t.ty c.args.field) 618 c.args.place m s (e ∙ c.if-may_name_field.true)))
    c.field_of.ensures.state

pub returns-then-may_name_field-clause-value : goal.returns-then-may_name_field-clause-value
returns-then-may_name_field-clause-value c =
    let s = now c.args.walk.now in
    let W = world_of c.args.scene.now in
    let t = settled_of c.args.walk.now.nodes c.args.settled in
    let m : Run Located = fine (AtField (field_of_settled c.args.scene.now.table.now c.args.walk.now.env.bounds c.args.place t c.args.field)) in
    let e = ap (λ u. may_name_field W u c.args.field) c.ty.ensures ∙ sym c.may_name_field.ensures in
    subst (λ (r : Ran Located). IfOk c.field_of.result (λ l. r.has ≡ has_located c.field_of.new.walk.nodes l)) (sym (passes (may_name_field W t.ty c.args.field) 618 c.args.place m s (e ∙ c.if-may_name_field.true)))
    c.field_of.ensures.value

pub returns-clause-state : goal.returns-clause-state
returns-clause-state c =
    let s = now c.args.walk.now in
    let W = world_of c.args.scene.now in
    let t = settled_of c.args.walk.now.nodes c.args.settled in
    let m : Run Located = fine (AtField (field_of_settled c.args.scene.now.table.now c.args.walk.now.env.bounds c.args.place t c.args.field)) in
    let e = ap (λ u. may_name_field W u c.args.field) c.ty.ensures ∙ sym c.may_name_field.ensures in
    ap (λ (r : Ran Located). r.state) (fails (may_name_field W t.ty c.args.field) 618 c.args.place m s (e ∙ c.if-may_name_field.false)) ∙ c.broken.ensures.state

pub returns-clause-value : goal.returns-clause-value
returns-clause-value c =
    let s = now c.args.walk.now in
    let W = world_of c.args.scene.now in
    let t = settled_of c.args.walk.now.nodes c.args.settled in
    let m : Run Located = fine (AtField (field_of_settled c.args.scene.now.table.now c.args.walk.now.env.bounds c.args.place t c.args.field)) in
    let e = ap (λ u. may_name_field W u c.args.field) c.ty.ensures ∙ sym c.may_name_field.ensures in
    ap (λ (r : Ran Located). r.has) (fails (may_name_field W t.ty c.args.field) 618 c.args.place m s (e ∙ c.if-may_name_field.false)) ∙ c.broken.ensures.value
