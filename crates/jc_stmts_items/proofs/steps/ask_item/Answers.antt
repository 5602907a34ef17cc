use Rattle.std.proofs.Common.{◌≡◌, sym, ◌∙◌, ap, subst}
use Rattle.std.specs.Prelude.{OnOk}
use Rattle.std.specs.Option.{option_copied}
use Rattle.jc_declares.specs.HeadBreaks.{class_file}
use Rattle.jc_exprs_nodes_spec.specs.Told.{ran}
use Rattle.jc_exprs_nodes.specs.Walks.{has, now}
use Rattle.jc_exprs_locals.specs.Scoped.{locals_of}
use Rattle.jc_stmts_spec.specs.Courses.{wanted}
use Rattle.jc_stmts_plan.specs.Seen.{want_seen}
use Rattle.jc_stmts_wants.specs.Laws.{asked}
use Rattle.jc_stmts_wants.specs.Wanting.{wanted_by}
use Rattle.jc_stmts_wants.proofs.Asking.{wanted_after}
use Rattle.jc_stmts_answers.proofs.Staying.{answers_below}
use Rattle.jc_stmts_course.specs.Nows.{stage}
use Rattle.jc_stmts_course.specs.Steps.{Stage}
use Rattle.jc_stmts_items.specs.Settings.{world_within}
use Rattle.jc_stmts_items.proofs.Through.{asked_through}
use Rattle.jc_stmts_items.proofs.steps.ask_item.Goals as goal

pub returns-clause-stage : goal.returns-clause-stage
unfolding world_within
returns-clause-stage c =
    let d = c.args.course.now in
    let s = c.args.setting.now in
    let W = world_within s (locals_of d.locals) in
    let w = c.asked.new.walk in
    let result = option_copied s.of_result in
    let want = want_seen c.args.want in
    let rule = wanted_by s.table.now result (class_file s.names.declared.heads.now s.class.0) want in
    let r = ran (wanted W result c.args.expr.now want) (now d.walk) in
    let e = asked_through d w c.requires.course c.in_ok-at.ensures.grows want rule (asked W result c.args.expr.now want) (has w.nodes c.in_ok-at.at) r
    (wanted_after W result c.args.expr.now want (now d.walk)) c.in_ok-at.ensures.state c.in_ok-at.ensures.value in
    subst (λ (x : Stage). OnOk c.ask.result (x ≡ stage c.ask.new.course)) (sym e) (rw c.class_file.ensures at c.ask.ensures.stage)

pub ask-requires-clause-course : goal.ask-requires-clause-course
ask-requires-clause-course c = answers_below c.args.course.now.walk.nodes c.asked.new.walk.nodes c.args.course.now.answers c.in_ok-at.ensures.grows c.requires.course
