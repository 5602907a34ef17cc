use Rattle.std.proofs.Common.{◌≡◌, sym, ◌∙◌, subst}
use Rattle.std.specs.Prelude.{OnOk}
use Rattle.jc_exprs_locals.specs.Scoped.{locals_of}
use Rattle.jc_stmts_course.specs.Nows.{stage}
use Rattle.jc_stmts_course.specs.Steps.{Stage}
use Rattle.jc_stmts_course.proofs.Ending.{declared_by}
use Rattle.jc_stmts_course.proofs.Scopes.{named_declared}
use Rattle.jc_stmts_course.proofs.scoping.declare.Goals as goal

pub returns-clause-stage : goal.returns-clause-stage
returns-clause-stage c =
    let d = c.args.course.now in
    let of = c.args.declaring.now in
    let q = c.is_declared-is_twice.ensures ∙ named_declared of.name.now (locals_of d.locals) in
    let e = declared_by (stage d) (stage c.note_twice.new.course) (stage c.answer.new.course) of.place of.name.now of.ty.now of.is_final c.in_ok-number.number
    (rw (← q) c.note_twice.ensures.stage) c.in_ok-answer.ensures.stage (c.in_ok-number.ensures ∙ c.len.ensures) in
    subst (λ (x : Stage). OnOk c.push_local.result (x ≡ stage c.push_local.new.course)) (sym e) c.push_local.ensures.stage
