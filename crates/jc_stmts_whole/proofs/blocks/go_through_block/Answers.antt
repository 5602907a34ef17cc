use Rattle.std.proofs.Common.{◌≡◌, ◌∙◌, List, subst}
use Rattle.std.specs.Option.{option_copied}
use Rattle.jc_stmts_spec.specs.Courses.{Course as Counted, items_on}
use Rattle.jc_stmts_spec.specs.Plans.{Item, plan}
use Rattle.jc_stmts_items.specs.Settings.{world_within}
use Rattle.jc_stmts_course.specs.Nows.{stage}
use Rattle.jc_stmts_course.specs.Steps.{seen}
use Rattle.jc_stmts_whole.proofs.Going.{enclosed_seen}
use Rattle.jc_stmts_whole.proofs.blocks.go_through_block.Goals as goal

pub returns-clause-stage : goal.returns-clause-stage
returns-clause-stage c =
    let s = c.args.setting.now in
    let xs = plan c.args.jumps.now c.args.stmts.now in
    let Going : List Item → Type 0 = λ is. (d : Counted) → seen d ≡ stage c.enter.new.course → seen (items_on (world_within s) (option_copied s.of_result) d is) ≡ stage c.go_through.new.course in
    let going : Going xs = subst Going (c.slice.ensures ∙ c.in_ok-items.ensures) c.in_ok-go_through.ensures.stage in
    λ (k : Counted) same.
    enclosed_seen (world_within s) (option_copied s.of_result) k xs (stage c.args.course.now) (stage c.enter.new.course) (stage c.go_through.new.course) (stage c.leave.new.course) same
    c.in_ok-enter.ensures.stage going c.leave.ensures.stage
