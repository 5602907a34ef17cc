use Rattle.std.proofs.Common.{◌≡◌, ap, sym, ◌∙◌, subst}
use Rattle.std.specs.Prelude.{IfOk, OnOk}
use Rattle.jc_rules.specs.declared.rule.Place.{Place}
use Rattle.jc_types.specs.declared.form.Primitive.TheVariants.{Boolean}
use Rattle.jc_types.specs.declared.form.Ty.{Ty}
use Rattle.jc_types.specs.declared.form.Ty.TheVariants.{Prim}
use Rattle.jc_convert.specs.declared.answer.Converts.{Converts}
use Rattle.jc_convert.specs.Converting.{invocation}
use Rattle.jc_exprs_nodes_spec.specs.Told.{Ran}
use Rattle.jc_exprs_nodes_spec.specs.Typeds.{Typed, type_of, unconverted}
use Rattle.jc_exprs_nodes.specs.Walks.{as_breaks, has, known, now}
use Rattle.jc_exprs_values.specs.Chosen.{branches}
use Rattle.jc_exprs_values.proofs.Ruling.{choice_none, choice_one}
use Rattle.jc_exprs_values.proofs.choices.chosen.Goals as goal

pub returns-in-Some-clause-state : goal.returns-in-Some-clause-state
returns-in-Some-clause-state c =
    let T = c.args.table.now in
    let s = now c.args.walk.now in
    let ns = c.args.walk.now.nodes in
    let t = known ns c.args.choice.test.at in
    let ab = branches ns c.args.choice in
    let k : Converts = c.in_ok-converts.converts in
    let e : k ≡ invocation T s.env (type_of t) (Prim Boolean) = c.in_ok-converts.ensures ∙ ap (λ (u : Ty). invocation T s.env u (Prim Boolean)) (sym (c.requires.test.ty ∙ c.ty-from.ensures)) in
    let f : as_breaks c.unconverted.result ≡ unconverted 607 t.start k = c.unconverted.ensures ∙ ap (λ (p : Place). unconverted 607 p k) (sym c.requires.test.start) in
    let z = choice_one T t ab s k c.unconverted.result c.in-Some.found e f c.in-Some.is in
    subst (λ (x : Ran Typed). OnOk c.refused.result (x.state ≡ now c.refused.new.walk)) (sym z) c.refused.ensures.state

pub returns-in-Some-clause-value : goal.returns-in-Some-clause-value
returns-in-Some-clause-value c =
    let T = c.args.table.now in
    let s = now c.args.walk.now in
    let ns = c.args.walk.now.nodes in
    let t = known ns c.args.choice.test.at in
    let ab = branches ns c.args.choice in
    let k : Converts = c.in_ok-converts.converts in
    let e : k ≡ invocation T s.env (type_of t) (Prim Boolean) = c.in_ok-converts.ensures ∙ ap (λ (u : Ty). invocation T s.env u (Prim Boolean)) (sym (c.requires.test.ty ∙ c.ty-from.ensures)) in
    let f : as_breaks c.unconverted.result ≡ unconverted 607 t.start k = c.unconverted.ensures ∙ ap (λ (p : Place). unconverted 607 p k) (sym c.requires.test.start) in
    let z = choice_one T t ab s k c.unconverted.result c.in-Some.found e f c.in-Some.is in
    subst (λ (x : Ran Typed). IfOk c.refused.result (λ at. x.has ≡ has c.refused.new.walk.nodes at)) (sym z) c.refused.ensures.value

pub returns-clause-state : goal.returns-clause-state
returns-clause-state c =
    let T = c.args.table.now in
    let s = now c.args.walk.now in
    let ns = c.args.walk.now.nodes in
    let t = known ns c.args.choice.test.at in
    let ab = branches ns c.args.choice in
    let k : Converts = c.in_ok-converts.converts in
    let e : k ≡ invocation T s.env (type_of t) (Prim Boolean) = c.in_ok-converts.ensures ∙ ap (λ (u : Ty). invocation T s.env u (Prim Boolean)) (sym (c.requires.test.ty ∙ c.ty-from.ensures)) in
    let f : as_breaks c.unconverted.result ≡ unconverted 607 t.start k = c.unconverted.ensures ∙ ap (λ (p : Place). unconverted 607 p k) (sym c.requires.test.start) in
    let z = choice_none T t ab s k c.unconverted.result e f c.in-None.is in
    subst (λ (x : Ran Typed). OnOk c.choice_of_type.result (x.state ≡ now c.choice_of_type.new.walk)) (sym z) c.choice_of_type.ensures.state

pub returns-clause-value : goal.returns-clause-value
returns-clause-value c =
    let T = c.args.table.now in
    let s = now c.args.walk.now in
    let ns = c.args.walk.now.nodes in
    let t = known ns c.args.choice.test.at in
    let ab = branches ns c.args.choice in
    let k : Converts = c.in_ok-converts.converts in
    let e : k ≡ invocation T s.env (type_of t) (Prim Boolean) = c.in_ok-converts.ensures ∙ ap (λ (u : Ty). invocation T s.env u (Prim Boolean)) (sym (c.requires.test.ty ∙ c.ty-from.ensures)) in
    let f : as_breaks c.unconverted.result ≡ unconverted 607 t.start k = c.unconverted.ensures ∙ ap (λ (p : Place). unconverted 607 p k) (sym c.requires.test.start) in
    let z = choice_none T t ab s k c.unconverted.result e f c.in-None.is in
    subst (λ (x : Ran Typed). IfOk c.choice_of_type.result (λ at. x.has ≡ has c.choice_of_type.new.walk.nodes at)) (sym z) c.choice_of_type.ensures.value
