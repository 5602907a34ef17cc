use Rattle.std.proofs.Common.{◌≡◌, refl, ap, sym, ◌∙◌, subst, Some}
use Rattle.std.specs.Prelude.{IfOk}
use Rattle.jc_typed.specs.Parts.{operand_of, steps_of}
use Rattle.jc_exprs_nodes_spec.specs.Told.{Ran, ran}
use Rattle.jc_exprs_nodes_spec.specs.Typeds.{capturing}
use Rattle.jc_exprs_nodes.specs.Walks.{has_kind, kind_of, known, now}
use Rattle.jc_exprs_nodes.proofs.Staying.{known_stays}
use Rattle.jc_stmts_spec.specs.Courses.{Elements, each_into}
use Rattle.jc_stmts_wants.specs.Wanting.{has_elements}
use Rattle.jc_stmts_wants.proofs.Onward.{onward_some}
use Rattle.jc_stmts_wants.proofs.iterating.each_of.Goals as goal

pub returns-in-Some-clause-value : goal.returns-in-Some-clause-value
returns-in-Some-clause-value c =
    let T = c.args.table.now in
    let over = c.args.over in
    let ms = c.args.walk.now.nodes in
    let w = c.capturing.new.walk in
    let t = known ms over.part.at in
    let m = capturing T t.place c.args.of.now in
    let f = each_into T t over.is_array (operand_of ms over.of) c.args.to.now (steps_of ms over.guards) in
    let k = kind_of w.nodes c.in-Some.kind in
    let es : (ran m (now c.args.walk.now)).state ≡ now w = rw c.requires.part.place c.in_ok-capturing.ensures.state in
    let eh : (ran m (now c.args.walk.now)).has ≡ Some k = rw c.requires.part.place (c.in_ok-capturing.ensures.value ∙ ap (has_kind w.nodes) c.in-Some.is) in
    let z = onward_some f m k (now c.args.walk.now) (now w) es eh in
    let g = c.in_ok-capturing.ensures.grows in
    let y = known_stays ms w.nodes over.part.at g c.requires.part.below.0 in
    let o : operand_of w.nodes over.of ≡ operand_of ms over.of = rw (g.kept over.of c.requires.below.0) refl in
    let s : steps_of w.nodes over.guards ≡ steps_of ms over.guards = rw (g.kept over.guards c.requires.below.1) refl in
    subst (λ (x : Ran Elements). IfOk c.each_into.result (λ e. x.has ≡ has_elements c.each_into.new.walk.nodes e)) (sym z)
    (rw (← y, ← o, ← s) c.each_into.ensures.value)
