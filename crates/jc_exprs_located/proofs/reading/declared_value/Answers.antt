use Rattle.std.proofs.Common.{◌≡◌, sym, ◌∙◌, subst, IfOk, OnOk}
use Rattle.jc_exprs_nodes_spec.specs.Told.{Ran, Run}
use Rattle.jc_exprs_nodes_spec.specs.Typeds.{Typed}
use Rattle.jc_exprs_nodes.specs.Walks.{has, now}
use Rattle.jc_exprs_worlds.specs.Scenes.{world_of}
use Rattle.jc_exprs_located.specs.Locations.{field_of}
use Rattle.jc_exprs_located.proofs.Gating.{left, taken}
use Rattle.jc_exprs_parts_spec.specs.Fields.{is_static_field}
use Rattle.jc_exprs_parts_spec.specs.Names.{object_known, static_known}
use Rattle.jc_exprs_parts_spec.specs.Worlds.{constant_field}
use Rattle.jc_exprs_located.proofs.reading.declared_value.Goals as goal

pub returns-then-is_static_field-clause-state : goal.returns-then-is_static_field-clause-state
returns-then-is_static_field-clause-state c =
    let s = now c.args.walk.now in
    let W = world_of c.args.scene.now in
    let T = c.args.scene.now.table.now in
    let f = field_of c.args.walk.now.nodes c.args.found in
    let env = c.args.walk.now.env.bounds in
    let k = constant_field W c.args.found.field in
    let m : Run Typed = static_known T f env k in
    let n : Run Typed = object_known T f env c.args.found.is_simple k in
    subst (λ (r : Ran Typed). OnOk c.static_known.result (r.state ≡ now c.static_known.new.walk)) (sym (taken (is_static_field T c.args.found.field) m n s (sym c.is_static_field.ensures ∙ c.if-is_static_field.true)))
    c.static_known.ensures.state

pub returns-then-is_static_field-clause-value : goal.returns-then-is_static_field-clause-value
returns-then-is_static_field-clause-value c =
    let s = now c.args.walk.now in
    let W = world_of c.args.scene.now in
    let T = c.args.scene.now.table.now in
    let f = field_of c.args.walk.now.nodes c.args.found in
    let env = c.args.walk.now.env.bounds in
    let k = constant_field W c.args.found.field in
    let m : Run Typed = static_known T f env k in
    let n : Run Typed = object_known T f env c.args.found.is_simple k in
    subst (λ (r : Ran Typed). IfOk c.static_known.result (λ at. r.has ≡ has c.static_known.new.walk.nodes at)) (sym (taken (is_static_field T c.args.found.field) m n s (sym c.is_static_field.ensures ∙ c.if-is_static_field.true)))
    c.static_known.ensures.value

pub returns-clause-state : goal.returns-clause-state
returns-clause-state c =
    let s = now c.args.walk.now in
    let W = world_of c.args.scene.now in
    let T = c.args.scene.now.table.now in
    let f = field_of c.args.walk.now.nodes c.args.found in
    let env = c.args.walk.now.env.bounds in
    let k = constant_field W c.args.found.field in
    let m : Run Typed = static_known T f env k in
    let n : Run Typed = object_known T f env c.args.found.is_simple k in
    subst (λ (r : Ran Typed). OnOk c.object_known.result (r.state ≡ now c.object_known.new.walk)) (sym (left (is_static_field T c.args.found.field) m n s (sym c.is_static_field.ensures ∙ c.if-is_static_field.false)))
    c.object_known.ensures.state

pub returns-clause-value : goal.returns-clause-value
returns-clause-value c =
    let s = now c.args.walk.now in
    let W = world_of c.args.scene.now in
    let T = c.args.scene.now.table.now in
    let f = field_of c.args.walk.now.nodes c.args.found in
    let env = c.args.walk.now.env.bounds in
    let k = constant_field W c.args.found.field in
    let m : Run Typed = static_known T f env k in
    let n : Run Typed = object_known T f env c.args.found.is_simple k in
    subst (λ (r : Ran Typed). IfOk c.object_known.result (λ at. r.has ≡ has c.object_known.new.walk.nodes at)) (sym (left (is_static_field T c.args.found.field) m n s (sym c.is_static_field.ensures ∙ c.if-is_static_field.false)))
    c.object_known.ensures.value
