use Rattle.std.proofs.Common.{◌≡◌, ap, sym, ◌∙◌, subst}
use Rattle.std.specs.Prelude.{IfOk}
use Rattle.jc_exprs_nodes_spec.specs.Told.{Ran}
use Rattle.jc_exprs_nodes_spec.specs.Typeds.{settled}
use Rattle.jc_exprs_nodes.specs.Walks.{known, now}
use Rattle.jc_exprs_worlds.specs.Scenes.{world_of}
use Rattle.jc_exprs_settling.specs.Settlings.{has_settled, settled_of}
use Rattle.jc_stmts_spec.specs.Courses.{Elements, each_type}
use Rattle.jc_stmts_wants.specs.Wanting.{has_elements}
use Rattle.jc_stmts_wants.proofs.Onward.{onward_some}
use Rattle.jc_stmts_wants.proofs.iterating.each_part.Goals as goal

pub returns-in-Some-clause-value : goal.returns-in-Some-clause-value
unfolding world_of
returns-in-Some-clause-value c =
    let W = world_of c.args.scene.now in
    let w = c.settled.new.walk in
    let z = onward_some (each_type W c.args.to.now) (settled W.table (known c.args.walk.now.nodes c.args.part.at)) (settled_of w.nodes c.in-Some.of) (now c.args.walk.now) (now w)
    c.in_ok-settled.ensures.state (c.in_ok-settled.ensures.value ∙ ap (has_settled w.nodes) c.in-Some.is) in
    subst (λ (x : Ran Elements). IfOk c.each_type.result (λ e. x.has ≡ has_elements c.each_type.new.walk.nodes e)) (sym z) c.each_type.ensures.value
