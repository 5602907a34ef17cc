use Rattle.std.proofs.Common.{◌≡◌, ap, sym, ◌∙◌, subst, IfOk, OnOk}
use Rattle.jc_exprs_nodes_spec.specs.Told.{Ran, ran}
use Rattle.jc_exprs_nodes.specs.Walks.{known, now}
use Rattle.jc_exprs_parts_spec.specs.Names.{Located}
use Rattle.jc_exprs_located.specs.Locations.{has_located}
use Rattle.jc_types.specs.declared.form.Primitive.TheVariants.{Int}
use Rattle.jc_types.specs.declared.form.Ty.TheVariants.{Prim}
use Rattle.jc_convert.specs.Converting.{invocation}
use Rattle.jc_exprs_parts_spec.specs.Names.{element_by}
use Rattle.jc_exprs_located.proofs.Walked.{index_asked}
use Rattle.jc_exprs_located.proofs.elements.indexed.Goals as goal

pub returns-clause-state : goal.returns-clause-state
returns-clause-state c =
    let st = now c.args.walk.now in
    let T = c.args.table.now in
    let a = known c.args.walk.now.nodes c.args.array.at in
    let i = known c.args.walk.now.nodes c.args.index.at in
    subst (λ (r : Ran Located). OnOk c.element_by.result (r.state ≡ now c.element_by.new.walk)) (sym (index_asked T a i st ∙ ap (λ k. ran (element_by T st.env a i k) st) (sym (c.in_ok-converts.ensures ∙ ap (λ u. invocation T st.env u (Prim Int)) (sym c.ty-from.ensures ∙ sym c.requires.index.ty)))))
    c.element_by.ensures.state

pub returns-clause-value : goal.returns-clause-value
returns-clause-value c =
    let st = now c.args.walk.now in
    let T = c.args.table.now in
    let a = known c.args.walk.now.nodes c.args.array.at in
    let i = known c.args.walk.now.nodes c.args.index.at in
    subst (λ (r : Ran Located). IfOk c.element_by.result (λ l. r.has ≡ has_located c.element_by.new.walk.nodes l)) (sym (index_asked T a i st ∙ ap (λ k. ran (element_by T st.env a i k) st) (sym (c.in_ok-converts.ensures ∙ ap (λ u. invocation T st.env u (Prim Int)) (sym c.ty-from.ensures ∙ sym c.requires.index.ty)))))
    c.element_by.ensures.value
