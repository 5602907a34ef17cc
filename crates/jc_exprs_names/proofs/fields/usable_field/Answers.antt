use Rattle.std.proofs.Common.{◌≡◌, ap, sym, ◌∙◌, subst, IfOk, OnOk}
use Rattle.jc_exprs_nodes_spec.specs.Told.{Ran, Run, fine}
use Rattle.jc_exprs_nodes.specs.Walks.{as_breaks, now}
use Rattle.jc_exprs_parts_spec.specs.Names.{AtField, Located, own_breaks, own_field}
use Rattle.jc_exprs_worlds.specs.Scenes.{world_of}
use Rattle.jc_exprs_located.specs.Locations.{has_located}
use Rattle.jc_exprs_located.proofs.Gating.{none_fails, one_fails}
use Rattle.jc_exprs_names.proofs.fields.usable_field.Goals as goal

pub returns-in-Some-clause-state : goal.returns-in-Some-clause-state
returns-in-Some-clause-state c =
    let s = now c.args.walk.now in
    let W = world_of c.args.scene.now in
    let m : Run Located = fine (AtField (own_field W c.args.place c.args.field)) in
    let bs = own_breaks W c.args.place c.args.is_own c.args.field in
    ap (λ (r : Ran Located). r.state) (one_fails bs c.in-Some.break_of m s (sym c.own_break.ensures ∙ ap as_breaks c.in-Some.is)) ∙ c.refused.ensures.state

pub returns-in-Some-clause-value : goal.returns-in-Some-clause-value
returns-in-Some-clause-value c =
    let s = now c.args.walk.now in
    let W = world_of c.args.scene.now in
    let m : Run Located = fine (AtField (own_field W c.args.place c.args.field)) in
    let bs = own_breaks W c.args.place c.args.is_own c.args.field in
    ap (λ (r : Ran Located). r.has) (one_fails bs c.in-Some.break_of m s (sym c.own_break.ensures ∙ ap as_breaks c.in-Some.is)) ∙ c.refused.ensures.value

pub returns-in-None-clause-state : goal.returns-in-None-clause-state
returns-in-None-clause-state c =
    let s = now c.args.walk.now in
    let W = world_of c.args.scene.now in
    let m : Run Located = fine (AtField (own_field W c.args.place c.args.field)) in
    let bs = own_breaks W c.args.place c.args.is_own c.args.field in
    subst (λ (r : Ran Located). OnOk c.own_field.result (r.state ≡ now c.own_field.new.walk)) (sym (none_fails bs m s (sym c.own_break.ensures ∙ ap as_breaks c.in-None.is)))
    c.own_field.ensures.state

pub returns-in-None-clause-value : goal.returns-in-None-clause-value
returns-in-None-clause-value c =
    let s = now c.args.walk.now in
    let W = world_of c.args.scene.now in
    let m : Run Located = fine (AtField (own_field W c.args.place c.args.field)) in
    let bs = own_breaks W c.args.place c.args.is_own c.args.field in
    subst (λ (r : Ran Located). IfOk c.own_field.result (λ l. r.has ≡ has_located c.own_field.new.walk.nodes l)) (sym (none_fails bs m s (sym c.own_break.ensures ∙ ap as_breaks c.in-None.is)))
    c.own_field.ensures.value
