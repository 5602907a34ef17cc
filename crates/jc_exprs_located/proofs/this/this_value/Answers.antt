use Rattle.std.proofs.Common.{◌≡◌, ap, sym, ◌∙◌, subst, IfOk, OnOk}
use Rattle.jc_exprs_nodes_spec.specs.Told.{Ran, Run, fine}
use Rattle.jc_exprs_nodes_spec.specs.Typeds.{Typed}
use Rattle.jc_exprs_nodes.specs.Walks.{as_breaks, has, now}
use Rattle.jc_exprs_worlds.specs.Scenes.{here_of, world_of}
use Rattle.jc_exprs_located.proofs.Gating.{none_fails, one_fails}
use Rattle.jc_exprs_parts_spec.specs.Names.{instance_breaks, this_at}
use Rattle.jc_exprs_located.proofs.this.this_value.Goals as goal

pub returns-in-Some-clause-state : goal.returns-in-Some-clause-state
unfolding world_of
returns-in-Some-clause-state c =
    let s = now c.args.walk.now in
    let W = world_of c.args.scene.now in
    let m : Run Typed = fine (this_at W c.args.place) in
    subst (λ (r : Ran Typed). OnOk c.refused.result (r.state ≡ now c.refused.new.walk)) (sym (one_fails (instance_breaks (here_of c.args.scene.now.here) c.args.place) c.in-Some.break_of m s (sym c.instance_break.ensures ∙ ap as_breaks c.in-Some.is)))
    c.refused.ensures.state

pub returns-in-Some-clause-value : goal.returns-in-Some-clause-value
unfolding world_of
returns-in-Some-clause-value c =
    let s = now c.args.walk.now in
    let W = world_of c.args.scene.now in
    let m : Run Typed = fine (this_at W c.args.place) in
    subst (λ (r : Ran Typed). IfOk c.refused.result (λ at. r.has ≡ has c.refused.new.walk.nodes at)) (sym (one_fails (instance_breaks (here_of c.args.scene.now.here) c.args.place) c.in-Some.break_of m s (sym c.instance_break.ensures ∙ ap as_breaks c.in-Some.is)))
    c.refused.ensures.value

pub returns-in-None-clause-state : goal.returns-in-None-clause-state
unfolding world_of
returns-in-None-clause-state c =
    let s = now c.args.walk.now in
    let W = world_of c.args.scene.now in
    let m : Run Typed = fine (this_at W c.args.place) in
    subst (λ (r : Ran Typed). OnOk c.this_at.result (r.state ≡ now c.this_at.new.walk)) (sym (none_fails (instance_breaks (here_of c.args.scene.now.here) c.args.place) m s (sym c.instance_break.ensures ∙ ap as_breaks c.in-None.is)))
    c.this_at.ensures.state

pub returns-in-None-clause-value : goal.returns-in-None-clause-value
unfolding world_of
returns-in-None-clause-value c =
    let s = now c.args.walk.now in
    let W = world_of c.args.scene.now in
    let m : Run Typed = fine (this_at W c.args.place) in
    subst (λ (r : Ran Typed). IfOk c.this_at.result (λ at. r.has ≡ has c.this_at.new.walk.nodes at)) (sym (none_fails (instance_breaks (here_of c.args.scene.now.here) c.args.place) m s (sym c.instance_break.ensures ∙ ap as_breaks c.in-None.is)))
    c.this_at.ensures.value
