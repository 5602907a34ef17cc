use Rattle.std.proofs.Common.{◌≡◌, [], refl, ◌∙◌, subst}
use Rattle.std.specs.Prelude.{IfOk}
use Rattle.jc_typed.specs.Parts.{form_over, parts, steps_of, type_of, variable_of}
use Rattle.jc_typed.specs.Trees.{Assign}
use Rattle.jc_typed.proofs.Growing.{within}
use Rattle.jc_exprs_nodes_spec.specs.Told.{Ran}
use Rattle.jc_exprs_nodes_spec.specs.Typeds.{Typed, converted, use_guard}
use Rattle.jc_exprs_nodes.specs.Walks.{has, known, now}
use Rattle.jc_exprs_nodes.proofs.Staying.{known_stays}
use Rattle.jc_exprs_assigning.proofs.Assigns.{captured_by}
use Rattle.jc_exprs_assigning.proofs.storing.assign.Goals as goal

pub returns-clause-value : goal.returns-clause-value
returns-clause-value c =
    let T = c.args.table.now in
    let env = c.args.walk.now.env.bounds in
    let v = c.args.target in
    let r = c.args.value.at in
    let old = c.args.walk.now.nodes in
    let mid = c.push_steps.new.self in
    let new = c.push_assign.new.nodes in
    let lead = c.in_ok-lead.lead in
    let form = form_over (parts new) c.in_ok-form.form in
    let first = c.in_ok-lead.ensures.grows in
    let second = c.in_ok-form.ensures.grows in
    let assign = Assign (variable_of old v.variable) (converted T env (known old r) c.args.converts.now) (use_guard T env (type_of old v.ty) v.declared) in
    let ty : type_of new v.ty ≡ type_of old v.ty = rw (second.kept v.ty (within old mid v.ty first c.requires.target.0), first.kept v.ty c.requires.target.0) refl in
    let made : form ≡ assign =
    c.in_ok-form.ensures.value ∙ rw (first.kept v.variable c.requires.target.1, first.kept v.ty c.requires.target.0, known_stays old mid r first c.requires.value.below.0) refl in
    let none : steps_of new lead ≡ [] = rw (second.kept lead c.in_ok-lead.ensures.within) c.in_ok-lead.ensures.value in
    let z = captured_by T v.start (type_of new v.ty) (type_of old v.ty) form assign (steps_of new lead) [] (now c.args.walk.now) ty made none in
    subst (λ (x : Ran Typed). IfOk c.captured_at.result (λ q. x.has ≡ has c.captured_at.new.walk.nodes q)) z c.captured_at.ensures.value
