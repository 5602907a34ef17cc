use Rattle.std.proofs.Common.{◌≡◌, ap, sym, ◌∙◌, subst, IfOk, OnOk}
use Rattle.jc_exprs_nodes_spec.specs.Told.{Ran, ran}
use Rattle.jc_exprs_nodes.specs.Walks.{now}
use Rattle.jc_exprs_parts_spec.specs.Names.{Located}
use Rattle.jc_exprs_worlds.specs.Scenes.{world_of}
use Rattle.jc_exprs_located.specs.Locations.{has_located}
use Rattle.jc_exprs_settling.specs.Settlings.{settled_of}
use Rattle.jc_exprs_parts_spec.specs.Fields.{member_fields}
use Rattle.jc_exprs_parts_spec.specs.Names.{is_length, one_field}
use Rattle.jc_exprs_located.proofs.Walked.{field_found, length_found}
use Rattle.jc_exprs_located.proofs.members.member_of.Goals as goal

pub returns-then-is_length-clause-state : goal.returns-then-is_length-clause-state
unfolding world_of
returns-then-is_length-clause-state c =
    let st = now c.args.walk.now in
    let W = world_of c.args.scene.now in
    let T = c.args.scene.now.table.now in
    let s = settled_of c.args.walk.now.nodes c.args.settled in
    let n = c.args.name.now in
    let e = ap (λ u. is_length u n) c.ty-ty.ensures ∙ sym c.is_length.ensures in
    subst (λ (r : Ran Located). OnOk c.array_length.result (r.state ≡ now c.array_length.new.walk)) (sym (length_found W c.args.place n s st (e ∙ c.if-is_length.true)))
    c.array_length.ensures.state

pub returns-then-is_length-clause-value : goal.returns-then-is_length-clause-value
unfolding world_of
returns-then-is_length-clause-value c =
    let st = now c.args.walk.now in
    let W = world_of c.args.scene.now in
    let T = c.args.scene.now.table.now in
    let s = settled_of c.args.walk.now.nodes c.args.settled in
    let n = c.args.name.now in
    let e = ap (λ u. is_length u n) c.ty-ty.ensures ∙ sym c.is_length.ensures in
    subst (λ (r : Ran Located). IfOk c.array_length.result (λ l. r.has ≡ has_located c.array_length.new.walk.nodes l)) (sym (length_found W c.args.place n s st (e ∙ c.if-is_length.true)))
    c.array_length.ensures.value

pub returns-clause-state : goal.returns-clause-state
unfolding world_of
returns-clause-state c =
    let st = now c.args.walk.now in
    let W = world_of c.args.scene.now in
    let T = c.args.scene.now.table.now in
    let s = settled_of c.args.walk.now.nodes c.args.settled in
    let n = c.args.name.now in
    let e = ap (λ u. is_length u n) c.ty-ty.ensures ∙ sym c.is_length.ensures in
    subst (λ (r : Ran Located). OnOk c.one_field.result (r.state ≡ now c.one_field.new.walk)) (sym (field_found W c.args.place n s st (e ∙ c.if-is_length.false) ∙ ap (λ fs. ran (one_field W st.env c.args.place s fs) st) (sym (c.slice.ensures ∙ c.in_ok-fields.ensures ∙ ap (λ u. member_fields T u c.args.settled.by_bounds n) (sym c.ty-ty.ensures)))))
    c.one_field.ensures.state

pub returns-clause-value : goal.returns-clause-value
unfolding world_of
returns-clause-value c =
    let st = now c.args.walk.now in
    let W = world_of c.args.scene.now in
    let T = c.args.scene.now.table.now in
    let s = settled_of c.args.walk.now.nodes c.args.settled in
    let n = c.args.name.now in
    let e = ap (λ u. is_length u n) c.ty-ty.ensures ∙ sym c.is_length.ensures in
    subst (λ (r : Ran Located). IfOk c.one_field.result (λ l. r.has ≡ has_located c.one_field.new.walk.nodes l)) (sym (field_found W c.args.place n s st (e ∙ c.if-is_length.false) ∙ ap (λ fs. ran (one_field W st.env c.args.place s fs) st) (sym (c.slice.ensures ∙ c.in_ok-fields.ensures ∙ ap (λ u. member_fields T u c.args.settled.by_bounds n) (sym c.ty-ty.ensures)))))
    c.one_field.ensures.value
