use Rattle.std.proofs.Common.{◌≡◌, subst, ℕ, Some, []}
use Rattle.std.specs.Prelude.{IfOk, OnOk}
use Rattle.jc_types.specs.declared.table.Table.{Table}
use Rattle.jc_typed.specs.Parts.{operand_of}
use Rattle.jc_exprs_parts_spec.specs.Fields.{declared_field}
use Rattle.jc_exprs_parts_spec.specs.Worlds.{World}
use Rattle.jc_exprs_spec.specs.Typing.{initialised}
use Rattle.jc_stmts_spec.specs.Courses.{Course as Counted}
use Rattle.jc_stmts_spec.specs.Typed.{initialiser_world, operand_or}
use Rattle.jc_stmts_course.specs.Nows.{stage}
use Rattle.jc_stmts_course.specs.Steps.{seen}
use Rattle.jc_stmts_whole.specs.Parts.{run_on}
use Rattle.jc_stmts_whole.specs.Programs.{heads_in, knowledge_in}
use Rattle.jc_stmts_whole.proofs.initialisers.go_through_field.Goals as goal

pub returns-clause-stage : goal.returns-clause-stage
returns-clause-stage c =
    let d = c.args.course.now in
    let e = c.go_through_value.new.course in
    let side = c.args.side.now in
    let scene = c.field_scene-scene.result in
    let W = initialiser_world side.program.table.now (heads_in side.program) (knowledge_in side.program) side.class side.is_static (Some c.args.field) [] in
    let Stages : World → Table → Type 0 = λ X U. OnOk c.go_through_value.result ((k : Counted) → seen k ≡ stage d → seen (run_on (initialised X (declared_field U c.args.field) c.args.init.now) k) ≡ stage e) in
    subst (λ U. Stages W U) c.field_scene-scene.ensures.table (subst (λ X. Stages X scene.table.now) c.field_scene-scene.ensures.world c.go_through_value.ensures.stage)

pub returns-clause-value : goal.returns-clause-value
returns-clause-value c =
    let d = c.args.course.now in
    let e = c.go_through_value.new.course in
    let side = c.args.side.now in
    let scene = c.field_scene-scene.result in
    let W = initialiser_world side.program.table.now (heads_in side.program) (knowledge_in side.program) side.class side.is_static (Some c.args.field) [] in
    let Values : World → Table → Type 0 = λ X U.
    IfOk c.go_through_value.result (λ at. (k : Counted) → seen k ≡ stage d → operand_or (initialised X (declared_field U c.args.field) c.args.init.now k.env).told ≡ operand_of e.walk.nodes at) in
    subst (λ U. Values W U) c.field_scene-scene.ensures.table (subst (λ X. Values X scene.table.now) c.field_scene-scene.ensures.world c.go_through_value.ensures.value)
