use Rattle.std.proofs.Common.{◌≡◌, ap, sym, ◌∙◌, subst, IfOk, OnOk}
use Rattle.jc_exprs_nodes_spec.specs.Told.{Ran, Run, fine, ran}
use Rattle.jc_exprs_nodes_spec.specs.Typeds.{Typed}
use Rattle.jc_exprs_nodes.specs.Walks.{has, known, now}
use Rattle.jc_exprs_located.specs.Locations.{field_of}
use Rattle.jc_exprs_parts_spec.specs.Names.{constant_at, object_value}
use Rattle.jc_exprs_nodes_spec.specs.Typeds.{one_operand, plain}
use Rattle.jc_exprs_located.proofs.Lying.{field_stays}
use Rattle.jc_exprs_located.proofs.Walked.{stopping, through}
use Rattle.jc_exprs_located.proofs.reading.known_of_object.Goals as goal

pub returns-in-None-clause-state : goal.returns-in-None-clause-state
returns-in-None-clause-state c =
    let s = now c.args.walk.now in
    let f = field_of c.args.walk.now.nodes c.args.found in
    let k = c.args.constant.now in
    let m : Run Typed = object_value c.args.table.now f c.args.walk.now.env.bounds in
    let r = now c.object_value.new.walk in
    ap (λ (x : Ran Typed). x.state) (stopping (λ u. fine (constant_at f k (one_operand (plain u)))) m s r c.in_ok-at.ensures.state (c.in_ok-at.ensures.value ∙ c.part.ensures.none c.in-None.is))

pub returns-in-None-clause-value : goal.returns-in-None-clause-value
returns-in-None-clause-value c =
    let s = now c.args.walk.now in
    let f = field_of c.args.walk.now.nodes c.args.found in
    let k = c.args.constant.now in
    let m : Run Typed = object_value c.args.table.now f c.args.walk.now.env.bounds in
    let r = now c.object_value.new.walk in
    let n = c.part.ensures.none c.in-None.is in
    ap (λ (x : Ran Typed). x.has) (stopping (λ u. fine (constant_at f k (one_operand (plain u)))) m s r c.in_ok-at.ensures.state (c.in_ok-at.ensures.value ∙ n)) ∙ sym n

pub returns-in-Some-clause-state : goal.returns-in-Some-clause-state
returns-in-Some-clause-state c =
    let s = now c.args.walk.now in
    let f = field_of c.args.walk.now.nodes c.args.found in
    let k = c.args.constant.now in
    let m : Run Typed = object_value c.args.table.now f c.args.walk.now.env.bounds in
    let r = now c.object_value.new.walk in
    let ns = c.object_value.new.walk.nodes in
    let t = known ns c.in-Some.read.at in
    let y = field_stays c.args.walk.now.nodes ns c.args.found c.in_ok-at.ensures.grows c.requires in
    let h = c.in_ok-at.ensures.value ∙ ap (has ns) (sym c.in-Some.ensures.same) ∙ c.in-Some.ensures.some.it in
    subst (λ (r : Ran Typed). OnOk c.known_behind.result (r.state ≡ now c.known_behind.new.walk)) (sym (through m f k s r t c.in_ok-at.ensures.state h ∙ ap (λ g. ran (fine (constant_at g k (one_operand (plain t)))) r) (sym y)))
    c.known_behind.ensures.state

pub returns-in-Some-clause-value : goal.returns-in-Some-clause-value
returns-in-Some-clause-value c =
    let s = now c.args.walk.now in
    let f = field_of c.args.walk.now.nodes c.args.found in
    let k = c.args.constant.now in
    let m : Run Typed = object_value c.args.table.now f c.args.walk.now.env.bounds in
    let r = now c.object_value.new.walk in
    let ns = c.object_value.new.walk.nodes in
    let t = known ns c.in-Some.read.at in
    let y = field_stays c.args.walk.now.nodes ns c.args.found c.in_ok-at.ensures.grows c.requires in
    let h = c.in_ok-at.ensures.value ∙ ap (has ns) (sym c.in-Some.ensures.same) ∙ c.in-Some.ensures.some.it in
    subst (λ (r : Ran Typed). IfOk c.known_behind.result (λ at. r.has ≡ has c.known_behind.new.walk.nodes at)) (sym (through m f k s r t c.in_ok-at.ensures.state h ∙ ap (λ g. ran (fine (constant_at g k (one_operand (plain t)))) r) (sym y)))
    c.known_behind.ensures.value
