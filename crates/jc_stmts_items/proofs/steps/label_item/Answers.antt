use Rattle.std.proofs.Common.{◌≡◌, sym, ◌∙◌, ap, subst, None}
use Rattle.std.specs.Prelude.{OnOk}
use Rattle.jc_exprs_nodes_spec.specs.Told.{onward, ran}
use Rattle.jc_exprs_nodes.specs.Walks.{has, now}
use Rattle.jc_exprs_locals.specs.Scoped.{locals_of}
use Rattle.jc_exprs_spec.specs.Typing.{typing}
use Rattle.jc_exprs_parts_spec.specs.Worlds.{at}
use Rattle.jc_stmts_spec.specs.Courses.{label_of, top_of}
use Rattle.jc_stmts_wants.proofs.Asking.{label_after}
use Rattle.jc_stmts_answers.proofs.Staying.{answers_below}
use Rattle.jc_stmts_course.specs.Nows.{stage}
use Rattle.jc_stmts_course.specs.Steps.{Stage}
use Rattle.jc_stmts_items.specs.Settings.{world_within}
use Rattle.jc_stmts_items.proofs.Through.{labelled_through}
use Rattle.jc_stmts_items.proofs.steps.label_item.Goals as goal

pub returns-clause-stage : goal.returns-clause-stage
unfolding world_within
returns-clause-stage c =
    let d = c.args.course.now in
    let s = c.args.setting.now in
    let W = world_within s (locals_of d.locals) in
    let w = c.typed.new.walk in
    let scope = top_of (stage d).scopes in
    let rule = label_of s.table.now (at W c.args.offset) scope in
    let r = ran (onward (typing W None c.args.expr.now) rule) (now d.walk) in
    let e = labelled_through d w c.requires.course c.in_ok-typed.ensures.grows rule (typing W None c.args.expr.now) (has w.nodes c.in_ok-typed.typed) r
    (label_after W (at W c.args.offset) scope c.args.expr.now (now d.walk)) c.in_ok-typed.ensures.state c.in_ok-typed.ensures.value in
    subst (λ (x : Stage). OnOk c.label.result (x ≡ stage c.label.new.course)) (sym e) (rw c.place_in-place.ensures at c.label.ensures.stage)

pub label-requires-clause-course : goal.label-requires-clause-course
label-requires-clause-course c = answers_below c.args.course.now.walk.nodes c.typed.new.walk.nodes c.args.course.now.answers c.in_ok-typed.ensures.grows c.requires.course
