use Rattle.std.proofs.Common.{◌≡◌, ap, sym, ◌∙◌, subst}
use Rattle.std.specs.Prelude.{IfOk, OnOk}
use Rattle.jc_rules.specs.declared.rule.Place.{Place}
use Rattle.jc_convert.specs.declared.answer.Converts.{Converts}
use Rattle.jc_typed.specs.Trees.{Operand}
use Rattle.jc_exprs_nodes_spec.specs.Told.{Ran, fine}
use Rattle.jc_exprs_nodes_spec.specs.Typeds.{converted, unconverted}
use Rattle.jc_exprs_nodes.specs.Walks.{as_breaks, known, now}
use Rattle.jc_exprs_gathering.specs.Gathered.{has_operand}
use Rattle.jc_exprs_values.proofs.Ruling.{provided_none, provided_one}
use Rattle.jc_exprs_values.proofs.arrays.push_assigned.Goals as goal

pub returns-in-Some-clause-state : goal.returns-in-Some-clause-state
returns-in-Some-clause-state c =
    let T = c.args.table.now in
    let s = now c.args.walk.now in
    let t = known c.args.walk.now.nodes c.args.part.at in
    let k : Converts = c.args.converts.now in
    let e : as_breaks c.unconverted.result ≡ unconverted 607 t.start k = c.unconverted.ensures ∙ ap (λ (p : Place). unconverted 607 p k) (sym c.requires.start) in
    let z = provided_one (unconverted 607 t.start k) (fine (converted T s.env t k)) s c.unconverted.result c.in-Some.found e c.in-Some.is in
    subst (λ (x : Ran Operand). OnOk c.refused_operand.result (x.state ≡ now c.refused_operand.new.walk)) (sym z) c.refused_operand.ensures.state

pub returns-in-Some-clause-value : goal.returns-in-Some-clause-value
returns-in-Some-clause-value c =
    let T = c.args.table.now in
    let s = now c.args.walk.now in
    let t = known c.args.walk.now.nodes c.args.part.at in
    let k : Converts = c.args.converts.now in
    let e : as_breaks c.unconverted.result ≡ unconverted 607 t.start k = c.unconverted.ensures ∙ ap (λ (p : Place). unconverted 607 p k) (sym c.requires.start) in
    let z = provided_one (unconverted 607 t.start k) (fine (converted T s.env t k)) s c.unconverted.result c.in-Some.found e c.in-Some.is in
    subst (λ (x : Ran Operand). IfOk c.refused_operand.result (λ at. x.has ≡ has_operand c.refused_operand.new.walk.nodes at)) (sym z) c.refused_operand.ensures.value

pub returns-in-None-clause-state : goal.returns-in-None-clause-state
returns-in-None-clause-state c =
    let T = c.args.table.now in
    let s = now c.args.walk.now in
    let t = known c.args.walk.now.nodes c.args.part.at in
    let k : Converts = c.args.converts.now in
    let e : as_breaks c.unconverted.result ≡ unconverted 607 t.start k = c.unconverted.ensures ∙ ap (λ (p : Place). unconverted 607 p k) (sym c.requires.start) in
    let z = provided_none (unconverted 607 t.start k) (fine (converted T s.env t k)) s c.unconverted.result e c.in-None.is in
    subst (λ (x : Ran Operand). OnOk c.converted_operand.result (x.state ≡ now c.converted_operand.new.walk)) (sym z) c.converted_operand.ensures.state

pub returns-in-None-clause-value : goal.returns-in-None-clause-value
returns-in-None-clause-value c =
    let T = c.args.table.now in
    let s = now c.args.walk.now in
    let t = known c.args.walk.now.nodes c.args.part.at in
    let k : Converts = c.args.converts.now in
    let e : as_breaks c.unconverted.result ≡ unconverted 607 t.start k = c.unconverted.ensures ∙ ap (λ (p : Place). unconverted 607 p k) (sym c.requires.start) in
    let z = provided_none (unconverted 607 t.start k) (fine (converted T s.env t k)) s c.unconverted.result e c.in-None.is in
    subst (λ (x : Ran Operand). IfOk c.converted_operand.result (λ at. x.has ≡ has_operand c.converted_operand.new.walk.nodes at)) (sym z) c.converted_operand.ensures.value
