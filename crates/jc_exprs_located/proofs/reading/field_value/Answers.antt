use Rattle.std.proofs.Common.{◌≡◌, ap, sym, ◌∙◌, subst, not, IfOk, OnOk}
use Rattle.jc_exprs_nodes_spec.specs.Told.{Ran, Run}
use Rattle.jc_exprs_nodes_spec.specs.Typeds.{Typed}
use Rattle.jc_exprs_nodes.specs.Walks.{has, now}
use Rattle.jc_exprs_worlds.specs.Scenes.{world_of}
use Rattle.jc_exprs_located.specs.Locations.{field_of}
use Rattle.jc_exprs_located.proofs.Gating.{fails, passes}
use Rattle.jc_exprs_parts_spec.specs.Fields.{is_static_field}
use Rattle.jc_exprs_parts_spec.specs.Names.{is_forward, object_known, static_known}
use Rattle.jc_exprs_parts_spec.specs.Worlds.{constant_field}
use Rattle.std.proofs.Common.{if◌then◌else◌}
use Rattle.jc_exprs_located.proofs.reading.field_value.Goals as goal

pub returns-then-is_forward-clause-state : goal.returns-then-is_forward-clause-state
unfolding world_of
returns-then-is_forward-clause-state c =
    let s = now c.args.walk.now in
    let W = world_of c.args.scene.now in
    let T = c.args.scene.now.table.now in
    let f = field_of c.args.walk.now.nodes c.args.found in
    let env = c.args.walk.now.env.bounds in
    let k = constant_field W c.args.found.field in
    let m : Run Typed = static_known T f env k in
    let n : Run Typed = object_known T f env c.args.found.is_simple k in
    let l : Run Typed = if is_static_field T c.args.found.field then m else n in
    let e = ap not (sym c.is_forward.ensures) in
    subst (λ (r : Ran Typed). OnOk c.broken.result (r.state ≡ now c.broken.new.walk)) (sym (fails (not (is_forward W f)) 626 c.args.found.place l s (e ∙ ap not c.if-is_forward.true)))
    c.broken.ensures.state

pub returns-then-is_forward-clause-value : goal.returns-then-is_forward-clause-value
unfolding world_of
returns-then-is_forward-clause-value c =
    let s = now c.args.walk.now in
    let W = world_of c.args.scene.now in
    let T = c.args.scene.now.table.now in
    let f = field_of c.args.walk.now.nodes c.args.found in
    let env = c.args.walk.now.env.bounds in
    let k = constant_field W c.args.found.field in
    let m : Run Typed = static_known T f env k in
    let n : Run Typed = object_known T f env c.args.found.is_simple k in
    let l : Run Typed = if is_static_field T c.args.found.field then m else n in
    let e = ap not (sym c.is_forward.ensures) in
    subst (λ (r : Ran Typed). IfOk c.broken.result (λ at. r.has ≡ has c.broken.new.walk.nodes at)) (sym (fails (not (is_forward W f)) 626 c.args.found.place l s (e ∙ ap not c.if-is_forward.true)))
    c.broken.ensures.value

pub returns-clause-state : goal.returns-clause-state
unfolding world_of
returns-clause-state c =
    let s = now c.args.walk.now in
    let W = world_of c.args.scene.now in
    let T = c.args.scene.now.table.now in
    let f = field_of c.args.walk.now.nodes c.args.found in
    let env = c.args.walk.now.env.bounds in
    let k = constant_field W c.args.found.field in
    let m : Run Typed = static_known T f env k in
    let n : Run Typed = object_known T f env c.args.found.is_simple k in
    let l : Run Typed = if is_static_field T c.args.found.field then m else n in
    let e = ap not (sym c.is_forward.ensures) in
    subst (λ (r : Ran Typed). OnOk c.declared_value.result (r.state ≡ now c.declared_value.new.walk)) (sym (passes (not (is_forward W f)) 626 c.args.found.place l s (e ∙ ap not c.if-is_forward.false)))
    c.declared_value.ensures.state

pub returns-clause-value : goal.returns-clause-value
unfolding world_of
returns-clause-value c =
    let s = now c.args.walk.now in
    let W = world_of c.args.scene.now in
    let T = c.args.scene.now.table.now in
    let f = field_of c.args.walk.now.nodes c.args.found in
    let env = c.args.walk.now.env.bounds in
    let k = constant_field W c.args.found.field in
    let m : Run Typed = static_known T f env k in
    let n : Run Typed = object_known T f env c.args.found.is_simple k in
    let l : Run Typed = if is_static_field T c.args.found.field then m else n in
    let e = ap not (sym c.is_forward.ensures) in
    subst (λ (r : Ran Typed). IfOk c.declared_value.result (λ at. r.has ≡ has c.declared_value.new.walk.nodes at)) (sym (passes (not (is_forward W f)) 626 c.args.found.place l s (e ∙ ap not c.if-is_forward.false)))
    c.declared_value.ensures.value
