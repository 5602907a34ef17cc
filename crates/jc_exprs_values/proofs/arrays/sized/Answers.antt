use Rattle.std.proofs.Common.{◌≡◌, ap, sym, ◌∙◌, subst, List, ◌++◌, map}
use Rattle.std.specs.Prelude.{IfOk, OnOk}
use Rattle.jc_rules.specs.declared.rule.Refusal.{Refusal}
use Rattle.jc_types.specs.declared.form.Ty.{Ty}
use Rattle.jc_typed.specs.Trees.{NewArray, Operands}
use Rattle.jc_exprs_nodes_spec.specs.Told.{Ran, Standing, fine, ran}
use Rattle.jc_exprs_nodes_spec.specs.Typeds.{Typed, node}
use Rattle.jc_exprs_nodes.specs.Walks.{as_breaks, has, known, now}
use Rattle.jc_exprs_parts_spec.specs.Values.{length_breaks}
use Rattle.jc_exprs_values.proofs.Ruling.{sized_breaks, sized_broken, sized_fine}
use Rattle.jc_exprs_values.proofs.arrays.sized.Goals as goal

pub returns-then-lengths-clause-state : goal.returns-then-lengths-clause-state
returns-then-lengths-clause-state c =
    let T = c.args.table.now in
    let s : Standing = now c.args.walk.now in
    let to : Ty = c.args.ty.now in
    let ts : List Typed = map (known c.args.walk.now.nodes) c.args.ats.now in
    let r : Standing = now c.checked_lengths.new.walk in
    let bs : List Refusal = as_breaks c.unreifiable-unreifiable.result ++ length_breaks T s.env ts in
    let e : bs ≡ sized_breaks T c.args.place to ts s.env = ap (λ (xs : List Refusal). xs ++ length_breaks T s.env ts) c.unreifiable-unreifiable.ensures in
    let z = sized_broken T c.args.place to ts s r bs e (sym c.in_ok-lengths.ensures.broken ∙ c.if-lengths.true) c.in_ok-lengths.ensures.state in
    subst (λ (x : Ran Typed). OnOk c.missing.result (x.state ≡ now c.missing.new.walk)) (sym z) c.missing.ensures.state

pub returns-then-lengths-clause-value : goal.returns-then-lengths-clause-value
returns-then-lengths-clause-value c =
    let T = c.args.table.now in
    let s : Standing = now c.args.walk.now in
    let to : Ty = c.args.ty.now in
    let ts : List Typed = map (known c.args.walk.now.nodes) c.args.ats.now in
    let r : Standing = now c.checked_lengths.new.walk in
    let bs : List Refusal = as_breaks c.unreifiable-unreifiable.result ++ length_breaks T s.env ts in
    let e : bs ≡ sized_breaks T c.args.place to ts s.env = ap (λ (xs : List Refusal). xs ++ length_breaks T s.env ts) c.unreifiable-unreifiable.ensures in
    let z = sized_broken T c.args.place to ts s r bs e (sym c.in_ok-lengths.ensures.broken ∙ c.if-lengths.true) c.in_ok-lengths.ensures.state in
    subst (λ (x : Ran Typed). IfOk c.missing.result (λ at. x.has ≡ has c.missing.new.walk.nodes at)) (sym z) c.missing.ensures.value

pub returns-clause-state : goal.returns-clause-state
returns-clause-state c =
    let T = c.args.table.now in
    let s : Standing = now c.args.walk.now in
    let to : Ty = c.args.ty.now in
    let ts : List Typed = map (known c.args.walk.now.nodes) c.args.ats.now in
    let r : Standing = now c.checked_lengths.new.walk in
    let bs : List Refusal = as_breaks c.unreifiable-unreifiable.result ++ length_breaks T s.env ts in
    let e : bs ≡ sized_breaks T c.args.place to ts s.env = ap (λ (xs : List Refusal). xs ++ length_breaks T s.env ts) c.unreifiable-unreifiable.ensures in
    let z =
    sized_fine T c.args.place to ts s r bs e (sym c.in_ok-lengths.ensures.broken ∙ c.if-lengths.false) c.in_ok-lengths.ensures.state
    ∙ ap (λ (os : Operands). ran (fine (node c.args.place to (NewArray os))) r) (sym c.in_ok-lengths.ensures.value) in
    subst (λ (x : Ran Typed). OnOk c.formed.result (x.state ≡ now c.formed.new.walk)) (sym z) c.formed.ensures.state

pub returns-clause-value : goal.returns-clause-value
returns-clause-value c =
    let T = c.args.table.now in
    let s : Standing = now c.args.walk.now in
    let to : Ty = c.args.ty.now in
    let ts : List Typed = map (known c.args.walk.now.nodes) c.args.ats.now in
    let r : Standing = now c.checked_lengths.new.walk in
    let bs : List Refusal = as_breaks c.unreifiable-unreifiable.result ++ length_breaks T s.env ts in
    let e : bs ≡ sized_breaks T c.args.place to ts s.env = ap (λ (xs : List Refusal). xs ++ length_breaks T s.env ts) c.unreifiable-unreifiable.ensures in
    let z =
    sized_fine T c.args.place to ts s r bs e (sym c.in_ok-lengths.ensures.broken ∙ c.if-lengths.false) c.in_ok-lengths.ensures.state
    ∙ ap (λ (os : Operands). ran (fine (node c.args.place to (NewArray os))) r) (sym c.in_ok-lengths.ensures.value) in
    subst (λ (x : Ran Typed). IfOk c.formed.result (λ at. x.has ≡ has c.formed.new.walk.nodes at)) (sym z) c.formed.ensures.value
