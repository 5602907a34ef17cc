use Rattle.std.proofs.Common.{◌≡◌, sym, ◌∙◌, ℕ}
use Rattle.std.specs.Prelude.{IfOk}
use Rattle.std.proofs.lemmas.Result.{IfOk-weaker, on_ok_weaker}
use Rattle.jc_typed.specs.Parts.{operand_of}
use Rattle.jc_exprs_nodes_spec.specs.Told.{ran}
use Rattle.jc_exprs_nodes.specs.Walks.{now}
use Rattle.jc_exprs_gathering.specs.Gathered.{has_operand}
use Rattle.jc_exprs_parts_spec.specs.Fields.{declared_field}
use Rattle.jc_exprs_spec.specs.Typing.{initialised}
use Rattle.jc_exprs_worlds.specs.Scenes.{world_of}
use Rattle.jc_stmts_spec.specs.Courses.{Course as Counted}
use Rattle.jc_stmts_spec.specs.Typed.{operand_or}
use Rattle.jc_stmts_answers.proofs.Staying.{answers_below}
use Rattle.jc_stmts_course.specs.Nows.{stage}
use Rattle.jc_stmts_course.specs.Steps.{seen}
use Rattle.jc_stmts_first.proofs.Running.{run_seen, told_there}
use Rattle.jc_stmts_whole.proofs.Placing.{operand_told}
use Rattle.jc_stmts_whole.proofs.initialisers.go_through_value.Goals as goal

pub returns-clause-stage : goal.returns-clause-stage
returns-clause-stage c =
    let d = c.args.course.now in
    let w = c.value_of.new.walk in
    let m = initialised (world_of c.args.methods.now.scene.now) (declared_field c.args.methods.now.scene.now.table.now c.args.field) c.args.init.now in
    on_ok_weaker c.value_of.result (λ e (k : Counted) same. run_seen m k d w same c.requires.course c.value_of.ensures.grows e) c.value_of.ensures.state

pub returns-clause-value : goal.returns-clause-value
returns-clause-value c =
    let d = c.args.course.now in
    let w = c.value_of.new.walk in
    let m = initialised (world_of c.args.methods.now.scene.now) (declared_field c.args.methods.now.scene.now.table.now c.args.field) c.args.init.now in
    IfOk-weaker c.value_of.result (λ at. (ran m (now d.walk)).has ≡ has_operand w.nodes at)
    (λ at. (k : Counted) → seen k ≡ stage d → operand_or (m k.env).told ≡ operand_of w.nodes at)
    (λ at e k same. operand_told (m k.env).told (operand_of w.nodes at) (told_there m k d w same ∙ e))
    c.value_of.ensures.value

pub returns-clause-course : goal.returns-clause-course
returns-clause-course c =
    let d = c.args.course.now in
    on_ok_weaker c.value_of.result (λ e. answers_below d.walk.nodes c.value_of.new.walk.nodes d.answers c.value_of.ensures.grows c.requires.course) c.value_of.ensures.state
