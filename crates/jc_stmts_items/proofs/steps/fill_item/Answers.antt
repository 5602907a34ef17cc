use Rattle.std.proofs.Common.{◌≡◌, sym, subst}
use Rattle.std.specs.Prelude.{OnOk}
use Rattle.jc_exprs_locals.specs.Scoped.{locals_of}
use Rattle.jc_exprs_spec.specs.Typing.{initialised}
use Rattle.jc_stmts_spec.specs.Courses.{last_type}
use Rattle.jc_stmts_wants.specs.Wanting.{has_operand}
use Rattle.jc_stmts_answers.proofs.Staying.{answers_below}
use Rattle.jc_stmts_course.specs.Nows.{stage}
use Rattle.jc_stmts_course.specs.Steps.{Stage}
use Rattle.jc_stmts_items.specs.Settings.{world_within}
use Rattle.jc_stmts_items.proofs.Through.{filled_through}
use Rattle.jc_stmts_items.proofs.steps.fill_item.Goals as goal

pub returns-clause-stage : goal.returns-clause-stage
returns-clause-stage c =
    let d = c.args.course.now in
    let s = c.args.setting.now in
    let ls = locals_of d.locals in
    let w = c.filled.new.walk in
    let e = filled_through d w c.requires.course c.in_ok-operand.ensures.grows s.table.now (initialised (world_within s ls) (last_type ls) c.args.init.now) (has_operand w.nodes c.in_ok-operand.operand)
    c.in_ok-operand.ensures.state c.in_ok-operand.ensures.value in
    subst (λ (x : Stage). OnOk c.fill.result (x ≡ stage c.fill.new.course)) (sym e) c.fill.ensures.stage

pub fill-requires-clause-course : goal.fill-requires-clause-course
fill-requires-clause-course c = answers_below c.args.course.now.walk.nodes c.filled.new.walk.nodes c.args.course.now.answers c.in_ok-operand.ensures.grows c.requires.course
