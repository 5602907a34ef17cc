use Rattle.std.proofs.Common.{◌≡◌, ap, sym, ◌∙◌, subst}
use Rattle.std.specs.Prelude.{IfOk, OnOk}
use Rattle.jc_types.specs.declared.form.Ty.{Ty}
use Rattle.jc_convert.specs.declared.answer.Converts.{Converts}
use Rattle.jc_convert.specs.Casting.{cast}
use Rattle.jc_exprs_nodes_spec.specs.Told.{Ran}
use Rattle.jc_exprs_nodes_spec.specs.Typeds.{Typed, type_of}
use Rattle.jc_exprs_nodes.specs.Walks.{has, known, now}
use Rattle.jc_exprs_values.proofs.Ruling.{cast_none, cast_one}
use Rattle.jc_exprs_values.proofs.casting.cast_to.Goals as goal

pub returns-in-Some-clause-state : goal.returns-in-Some-clause-state
returns-in-Some-clause-state c =
    let T = c.args.table.now in
    let s = now c.args.walk.now in
    let t = known c.args.walk.now.nodes c.args.part.at in
    let to : Ty = c.args.ty.now in
    let k : Converts = c.in_ok-converts.converts in
    let e : k ≡ cast T s.env (type_of t) to = c.in_ok-converts.ensures ∙ ap (λ (u : Ty). cast T s.env u to) (sym (c.requires.ty ∙ c.ty.ensures)) in
    let z = cast_one T c.args.place to t s k c.unconverted.result c.in-Some.found e c.unconverted.ensures c.in-Some.is in
    subst (λ (x : Ran Typed). OnOk c.refused.result (x.state ≡ now c.refused.new.walk)) (sym z) c.refused.ensures.state

pub returns-in-Some-clause-value : goal.returns-in-Some-clause-value
returns-in-Some-clause-value c =
    let T = c.args.table.now in
    let s = now c.args.walk.now in
    let t = known c.args.walk.now.nodes c.args.part.at in
    let to : Ty = c.args.ty.now in
    let k : Converts = c.in_ok-converts.converts in
    let e : k ≡ cast T s.env (type_of t) to = c.in_ok-converts.ensures ∙ ap (λ (u : Ty). cast T s.env u to) (sym (c.requires.ty ∙ c.ty.ensures)) in
    let z = cast_one T c.args.place to t s k c.unconverted.result c.in-Some.found e c.unconverted.ensures c.in-Some.is in
    subst (λ (x : Ran Typed). IfOk c.refused.result (λ at. x.has ≡ has c.refused.new.walk.nodes at)) (sym z) c.refused.ensures.value

pub returns-clause-state : goal.returns-clause-state
returns-clause-state c =
    let T = c.args.table.now in
    let s = now c.args.walk.now in
    let t = known c.args.walk.now.nodes c.args.part.at in
    let to : Ty = c.args.ty.now in
    let k : Converts = c.in_ok-converts.converts in
    let e : k ≡ cast T s.env (type_of t) to = c.in_ok-converts.ensures ∙ ap (λ (u : Ty). cast T s.env u to) (sym (c.requires.ty ∙ c.ty.ensures)) in
    let z = cast_none T c.args.place to t s k c.unconverted.result e c.unconverted.ensures c.in-None.is in
    subst (λ (x : Ran Typed). OnOk c.cast_typed.result (x.state ≡ now c.cast_typed.new.walk)) (sym z) c.cast_typed.ensures.state

pub returns-clause-value : goal.returns-clause-value
returns-clause-value c =
    let T = c.args.table.now in
    let s = now c.args.walk.now in
    let t = known c.args.walk.now.nodes c.args.part.at in
    let to : Ty = c.args.ty.now in
    let k : Converts = c.in_ok-converts.converts in
    let e : k ≡ cast T s.env (type_of t) to = c.in_ok-converts.ensures ∙ ap (λ (u : Ty). cast T s.env u to) (sym (c.requires.ty ∙ c.ty.ensures)) in
    let z = cast_none T c.args.place to t s k c.unconverted.result e c.unconverted.ensures c.in-None.is in
    subst (λ (x : Ran Typed). IfOk c.cast_typed.result (λ at. x.has ≡ has c.cast_typed.new.walk.nodes at)) (sym z) c.cast_typed.ensures.value
