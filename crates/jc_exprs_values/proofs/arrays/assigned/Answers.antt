use Rattle.std.proofs.Common.{◌≡◌, ap, sym, ◌∙◌, subst, Option}
use Rattle.std.specs.Prelude.{IfOk, OnOk}
use Rattle.std.specs.Option.{option_copied}
use Rattle.jc_types.specs.declared.constant.Constant.{Constant}
use Rattle.jc_types.specs.declared.form.Ty.{Ty}
use Rattle.jc_convert.specs.declared.answer.Converts.{Converts}
use Rattle.jc_convert.specs.Converting.{assignment}
use Rattle.jc_typed.specs.Trees.{Operand}
use Rattle.jc_exprs_nodes_spec.specs.Told.{Ran, ran}
use Rattle.jc_exprs_nodes_spec.specs.Typeds.{constant_of, type_of}
use Rattle.jc_exprs_nodes.specs.Walks.{known, now}
use Rattle.jc_exprs_gathering.specs.Gathered.{has_operand}
use Rattle.jc_exprs_parts_spec.specs.Values.{assigned, assigned_by}
use Rattle.jc_exprs_values.proofs.Ruling.{ran_assigned}
use Rattle.jc_exprs_values.proofs.arrays.assigned.Goals as goal

pub returns-clause-state : goal.returns-clause-state
returns-clause-state c =
    let T = c.args.table.now in
    let s = now c.args.walk.now in
    let t = known c.args.walk.now.nodes c.args.part.at in
    let to : Ty = c.args.to.now in
    let e : c.in_ok-converts.converts ≡ assignment T s.env (type_of t) (constant_of t) to =
    c.in_ok-converts.ensures
    ∙ ap (λ (u : Ty). assignment T s.env u (option_copied c.constant_part-constant.result) to) (sym (c.requires.ty ∙ c.ty-from.ensures))
    ∙ ap (λ (k : Option Constant). assignment T s.env (type_of t) k to) (sym c.constant_part-constant.ensures) in
    let z : ran (assigned T to t) s ≡ ran (assigned_by T s.env t c.in_ok-converts.converts) s =
    ran_assigned T to t s ∙ ap (λ (d : Converts). ran (assigned_by T s.env t d) s) (sym e) in
    subst (λ (x : Ran Operand). OnOk c.push_assigned.result (x.state ≡ now c.push_assigned.new.walk)) (sym z) c.push_assigned.ensures.state

pub returns-clause-value : goal.returns-clause-value
returns-clause-value c =
    let T = c.args.table.now in
    let s = now c.args.walk.now in
    let t = known c.args.walk.now.nodes c.args.part.at in
    let to : Ty = c.args.to.now in
    let e : c.in_ok-converts.converts ≡ assignment T s.env (type_of t) (constant_of t) to =
    c.in_ok-converts.ensures
    ∙ ap (λ (u : Ty). assignment T s.env u (option_copied c.constant_part-constant.result) to) (sym (c.requires.ty ∙ c.ty-from.ensures))
    ∙ ap (λ (k : Option Constant). assignment T s.env (type_of t) k to) (sym c.constant_part-constant.ensures) in
    let z : ran (assigned T to t) s ≡ ran (assigned_by T s.env t c.in_ok-converts.converts) s =
    ran_assigned T to t s ∙ ap (λ (d : Converts). ran (assigned_by T s.env t d) s) (sym e) in
    subst (λ (x : Ran Operand). IfOk c.push_assigned.result (λ at. x.has ≡ has_operand c.push_assigned.new.walk.nodes at)) (sym z) c.push_assigned.ensures.value
