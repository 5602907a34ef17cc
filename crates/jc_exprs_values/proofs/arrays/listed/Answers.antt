use Rattle.std.proofs.Common.{◌≡◌, sym, subst, List, map}
use Rattle.std.specs.Prelude.{IfOk, OnOk}
use Rattle.jc_typed.specs.Parts.{operand_of}
use Rattle.jc_typed.specs.Trees.{Operand}
use Rattle.jc_exprs_nodes_spec.specs.Told.{Ran}
use Rattle.jc_exprs_nodes_spec.specs.Typeds.{Typed}
use Rattle.jc_exprs_nodes.specs.Walks.{has, now}
use Rattle.jc_exprs_values.proofs.Ruling.{listed_none, listed_one}
use Rattle.jc_exprs_values.proofs.arrays.listed.Goals as goal

pub returns-in-Some-clause-state : goal.returns-in-Some-clause-state
returns-in-Some-clause-state c =
    let os : List Operand = map (operand_of c.args.walk.now.nodes) c.args.ats.now in
    let z = listed_one c.args.table.now c.args.place c.args.ty.now os (now c.args.walk.now) c.in_ok-found.field-0 c.in-Some.found c.in_ok-found.ensures c.in-Some.is in
    subst (λ (x : Ran Typed). OnOk c.refused.result (x.state ≡ now c.refused.new.walk)) (sym z) c.refused.ensures.state

pub returns-in-Some-clause-value : goal.returns-in-Some-clause-value
returns-in-Some-clause-value c =
    let os : List Operand = map (operand_of c.args.walk.now.nodes) c.args.ats.now in
    let z = listed_one c.args.table.now c.args.place c.args.ty.now os (now c.args.walk.now) c.in_ok-found.field-0 c.in-Some.found c.in_ok-found.ensures c.in-Some.is in
    subst (λ (x : Ran Typed). IfOk c.refused.result (λ at. x.has ≡ has c.refused.new.walk.nodes at)) (sym z) c.refused.ensures.value

pub returns-in-None-clause-state : goal.returns-in-None-clause-state
returns-in-None-clause-state c =
    let os : List Operand = map (operand_of c.args.walk.now.nodes) c.args.ats.now in
    let z = listed_none c.args.table.now c.args.place c.args.ty.now os (now c.args.walk.now) c.in_ok-found.field-0 c.in_ok-found.ensures c.in-None.is in
    subst (λ (x : Ran Typed). OnOk c.array_of.result (x.state ≡ now c.array_of.new.walk)) (sym z) c.array_of.ensures.state

pub returns-in-None-clause-value : goal.returns-in-None-clause-value
returns-in-None-clause-value c =
    let os : List Operand = map (operand_of c.args.walk.now.nodes) c.args.ats.now in
    let z = listed_none c.args.table.now c.args.place c.args.ty.now os (now c.args.walk.now) c.in_ok-found.field-0 c.in_ok-found.ensures c.in-None.is in
    subst (λ (x : Ran Typed). IfOk c.array_of.result (λ at. x.has ≡ has c.array_of.new.walk.nodes at)) (sym z) c.array_of.ensures.value
