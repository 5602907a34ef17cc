use Rattle.std.proofs.Common.{◌≡◌, sym, ◌∙◌, ap, subst}
use Rattle.std.specs.Prelude.{OnOk}
use Rattle.std.specs.Option.{option_copied}
use Rattle.jc_stmts_spec.specs.Courses.{Course as Counted}
use Rattle.jc_stmts_course.specs.Nows.{stage}
use Rattle.jc_stmts_course.specs.Steps.{Stage, seen, steps_on}
use Rattle.jc_stmts_items.specs.Settings.{world_within}
use Rattle.jc_stmts_course.proofs.Seeing.{steps_seen}
use Rattle.std.proofs.lemmas.Result.{on_ok_weaker}
use Rattle.jc_stmts_items.proofs.steps.go_through.Goals as goal

pub returns-clause-stage : goal.returns-clause-stage
returns-clause-stage c =
    let W = world_within c.args.setting.now in
    let result = option_copied c.args.setting.now.of_result in
    let items = c.args.items.now in
    on_ok_weaker c.go_on_through.result
    (λ e (d : Counted) same. steps_seen W result d items ∙ ap (λ (s : Stage). steps_on W result s items) same ∙ e)
    c.go_on_through.ensures.stage
