use Rattle.std.proofs.Common.{◌≡◌, sym, subst}
use Rattle.std.specs.Prelude.{OnOk, []}
use Rattle.jc_exprs_nodes_spec.specs.Gates.{gated}
use Rattle.jc_exprs_nodes.specs.Walks.{has, now}
use Rattle.jc_stmts_spec.specs.Courses.{label_of, top_of}
use Rattle.jc_stmts_wants.specs.Wanting.{has_key}
use Rattle.jc_stmts_course.specs.Nows.{scopes_on, stage}
use Rattle.jc_stmts_course.specs.Steps.{Stage}
use Rattle.jc_stmts_course.proofs.Ending.{labelled_at}
use Rattle.jc_stmts_course.proofs.Resuming.{gated_later}
use Rattle.jc_stmts_course.proofs.asking.label.Goals as goal

pub returns-clause-stage : goal.returns-clause-stage
returns-clause-stage c =
    let d = c.args.course.now in
    let w = c.label.new.walk in
    let rule = label_of c.args.table.now c.args.place (top_of (scopes_on d.scopes [])) in
    let r = gated rule (has d.walk.nodes c.args.at) (now d.walk) in
    let top = c.pop_scope-scope.ensures.top in
    let e = labelled_at d c.pop_scope-scope.new.scopes c.pop_scope-scope.result w c.requires.course c.in_ok-key.ensures.grows r (has_key w.nodes c.in_ok-key.key)
    (gated_later rule (has d.walk.nodes c.args.at) (now d.walk)) (rw (← top) c.in_ok-key.ensures.state) (rw (← top) c.in_ok-key.ensures.value) top c.pop_scope-scope.ensures.below in
    subst (λ (x : Stage). OnOk c.keep_label.result (x ≡ stage c.keep_label.new.course)) (sym e) c.keep_label.ensures.stage
