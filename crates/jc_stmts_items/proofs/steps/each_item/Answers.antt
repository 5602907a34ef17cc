use Rattle.std.proofs.Common.{◌≡◌, sym, subst}
use Rattle.std.specs.Prelude.{OnOk}
use Rattle.jc_exprs_locals.specs.Scoped.{locals_of}
use Rattle.jc_exprs_parts_spec.specs.Worlds.{written}
use Rattle.jc_overriding.specs.Viewing.{with_dims}
use Rattle.jc_stmts_spec.specs.Courses.{each}
use Rattle.jc_stmts_wants.specs.Wanting.{has_elements}
use Rattle.jc_stmts_answers.proofs.Staying.{answers_below}
use Rattle.jc_stmts_course.specs.Nows.{stage}
use Rattle.jc_stmts_course.specs.Steps.{Stage}
use Rattle.jc_stmts_items.specs.Settings.{world_within}
use Rattle.jc_stmts_items.proofs.Through.{gone_over_through}
use Rattle.jc_stmts_items.proofs.steps.each_item.Goals as goal

pub returns-clause-stage : goal.returns-clause-stage
returns-clause-stage c =
    let d = c.args.course.now in
    let W = world_within c.args.setting.now (locals_of d.locals) in
    let w = c.elements.new.walk in
    let e = gone_over_through d w c.requires.course c.in_ok-of.ensures.grows (each W c.args.over.now (with_dims c.args.dims (written W c.args.ty.now))) (has_elements w.nodes c.in_ok-of.of)
    c.in_ok-of.ensures.state c.in_ok-of.ensures.value in
    subst (λ (x : Stage). OnOk c.go_over.result (x ≡ stage c.go_over.new.course)) (sym e) c.go_over.ensures.stage

pub go_over-requires-clause-course : goal.go_over-requires-clause-course
go_over-requires-clause-course c = answers_below c.args.course.now.walk.nodes c.elements.new.walk.nodes c.args.course.now.answers c.in_ok-of.ensures.grows c.requires.course
