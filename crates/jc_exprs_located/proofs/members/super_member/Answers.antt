use Rattle.std.proofs.Common.{◌≡◌, ap, sym, ◌∙◌, subst, IfOk, OnOk}
use Rattle.jc_exprs_nodes_spec.specs.Told.{Ran, Run, ran}
use Rattle.jc_exprs_nodes.specs.Walks.{as_breaks, now}
use Rattle.jc_exprs_parts_spec.specs.Names.{Located}
use Rattle.jc_exprs_worlds.specs.Scenes.{here_of, world_of}
use Rattle.jc_exprs_located.specs.Locations.{has_located}
use Rattle.jc_exprs_located.proofs.Gating.{none_fails, one_fails}
use Rattle.jc_exprs_parts_spec.specs.Names.{instance_breaks, super_by, super_member, super_type}
use Rattle.jc_exprs_located.proofs.members.super_member.Goals as goal

pub returns-in-Some-clause-state : goal.returns-in-Some-clause-state
unfolding world_of super_member
returns-in-Some-clause-state c =
    let s = now c.args.walk.now in
    let W = world_of c.args.scene.now in
    let m : Run Located = super_by W c.args.place c.args.name.now (super_type W) in
    ap (λ (r : Ran Located). r.state) (one_fails (instance_breaks (here_of c.args.scene.now.here) c.args.place) c.in-Some.break_of m s (sym c.instance_break.ensures ∙ ap as_breaks c.in-Some.is)) ∙ c.refused.ensures.state

pub returns-in-Some-clause-value : goal.returns-in-Some-clause-value
unfolding world_of super_member
returns-in-Some-clause-value c =
    let s = now c.args.walk.now in
    let W = world_of c.args.scene.now in
    let m : Run Located = super_by W c.args.place c.args.name.now (super_type W) in
    ap (λ (r : Ran Located). r.has) (one_fails (instance_breaks (here_of c.args.scene.now.here) c.args.place) c.in-Some.break_of m s (sym c.instance_break.ensures ∙ ap as_breaks c.in-Some.is)) ∙ c.refused.ensures.value

pub returns-in-None-clause-state : goal.returns-in-None-clause-state
unfolding world_of super_member
returns-in-None-clause-state c =
    let s = now c.args.walk.now in
    let W = world_of c.args.scene.now in
    let m : Run Located = super_by W c.args.place c.args.name.now (super_type W) in
    subst (λ (r : Ran Located). OnOk c.super_by.result (r.state ≡ now c.super_by.new.walk)) (sym (none_fails (instance_breaks (here_of c.args.scene.now.here) c.args.place) m s (sym c.instance_break.ensures ∙ ap as_breaks c.in-None.is) ∙ ap (λ o. ran (super_by W c.args.place c.args.name.now o) s) (sym c.super_type.ensures)))
    c.super_by.ensures.state

pub returns-in-None-clause-value : goal.returns-in-None-clause-value
unfolding world_of super_member
returns-in-None-clause-value c =
    let s = now c.args.walk.now in
    let W = world_of c.args.scene.now in
    let m : Run Located = super_by W c.args.place c.args.name.now (super_type W) in
    subst (λ (r : Ran Located). IfOk c.super_by.result (λ l. r.has ≡ has_located c.super_by.new.walk.nodes l)) (sym (none_fails (instance_breaks (here_of c.args.scene.now.here) c.args.place) m s (sym c.instance_break.ensures ∙ ap as_breaks c.in-None.is) ∙ ap (λ o. ran (super_by W c.args.place c.args.name.now o) s) (sym c.super_type.ensures)))
    c.super_by.ensures.value
