use Rattle.std.proofs.Common.{◌≡◌, ap, sym, ◌∙◌, subst, None}
use Rattle.std.specs.Prelude.{IfOk, OnOk}
use Rattle.jc_exprs_nodes_spec.specs.Told.{Ran, Run, ran}
use Rattle.jc_exprs_nodes_spec.specs.Typeds.{Typed}
use Rattle.jc_exprs_nodes.specs.Walks.{has, now}
use Rattle.jc_exprs_worlds.specs.Scenes.{world_of}
use Rattle.jc_tree.specs.declared.expression.Expr.TheVariants as anExpr
use Rattle.jc_exprs_forms.specs.Forms.{starts}
use Rattle.jc_exprs_calls.specs.Placing.{has_before}
use Rattle.jc_exprs.proofs.Others.{effect_value}
use Rattle.jc_exprs.proofs.Through.{effect_through}
use Rattle.jc_exprs.proofs.walking.effect.Goals as goal

pub returns-in_default-clause-state : goal.returns-in_default-clause-state
returns-in_default-clause-state c =
    subst (λ (m : Run Typed). OnOk c.typed.result ((ran m (now c.args.walk.now)).state ≡ now c.typed.new.walk))
    (sym (effect_value (world_of c.args.methods.now.scene.now) c.args.e.now c.in_default.not-Call c.in_default.not-SuperCall c.in_default.not-Invoke)) c.typed.ensures.state

pub returns-in_default-clause-value : goal.returns-in_default-clause-value
returns-in_default-clause-value c =
    subst (λ (m : Run Typed). IfOk c.typed.result (λ at. (ran m (now c.args.walk.now)).has ≡ has c.typed.new.walk.nodes at))
    (sym (effect_value (world_of c.args.methods.now.scene.now) c.args.e.now c.in_default.not-Call c.in_default.not-SuperCall c.in_default.not-Invoke)) c.typed.ensures.value

pub returns-in_ok-before-in-Call-clause-state : goal.returns-in_ok-before-in-Call-clause-state
returns-in_ok-before-in-Call-clause-state c =
    let is : c.args.e.now ≡ anExpr.Call c.get.result.now c.slice.result.now c.get-in-Call-2.result.now c.slice-in-Call.result.now =
    cc (c.in-Call.is, c.get.ensures, c.get-in-Call-2.ensures, c.get-in-Call-3.ensures, c.slice.ensures, c.get-in-Call-4.ensures, c.slice-in-Call.ensures) in
    let z = effect_through (world_of c.args.methods.now.scene.now) c.args.e.now None c.get.result.now c.slice.result.now c.get-in-Call-2.result.now c.slice-in-Call.result.now is c.start_of.result
    (c.start_of.ensures ∙ ap (starts (world_of c.args.methods.now.scene.now)) (c.get-in-Call.ensures ∙ sym c.get.ensures)) (now c.args.walk.now) (now c.asked_before.new.walk) (has_before c.asked_before.new.walk.nodes c.in_ok-before-in-Call.before)
    c.in_ok-before-in-Call.ensures.state c.in_ok-before-in-Call.ensures.value in
    subst (λ (r : Ran Typed). OnOk c.called_on.result (r.state ≡ now c.called_on.new.walk)) (sym z) c.called_on.ensures.state

pub returns-in_ok-before-in-Call-clause-value : goal.returns-in_ok-before-in-Call-clause-value
returns-in_ok-before-in-Call-clause-value c =
    let is : c.args.e.now ≡ anExpr.Call c.get.result.now c.slice.result.now c.get-in-Call-2.result.now c.slice-in-Call.result.now =
    cc (c.in-Call.is, c.get.ensures, c.get-in-Call-2.ensures, c.get-in-Call-3.ensures, c.slice.ensures, c.get-in-Call-4.ensures, c.slice-in-Call.ensures) in
    let z = effect_through (world_of c.args.methods.now.scene.now) c.args.e.now None c.get.result.now c.slice.result.now c.get-in-Call-2.result.now c.slice-in-Call.result.now is c.start_of.result
    (c.start_of.ensures ∙ ap (starts (world_of c.args.methods.now.scene.now)) (c.get-in-Call.ensures ∙ sym c.get.ensures)) (now c.args.walk.now) (now c.asked_before.new.walk) (has_before c.asked_before.new.walk.nodes c.in_ok-before-in-Call.before)
    c.in_ok-before-in-Call.ensures.state c.in_ok-before-in-Call.ensures.value in
    subst (λ (r : Ran Typed). IfOk c.called_on.result (λ at. r.has ≡ has c.called_on.new.walk.nodes at)) (sym z) c.called_on.ensures.value
