use Rattle.std.proofs.Common.{◌≡◌, ℕ, sym, ◌∙◌}
use Rattle.std.specs.Prelude.{IfOk}
use Rattle.std.proofs.lemmas.Result.{IfOk-weaker, on_ok_weaker}
use Rattle.jc_typed.specs.Parts.{stmts_of}
use Rattle.jc_exprs_nodes_spec.specs.Told.{ran}
use Rattle.jc_exprs_nodes.specs.Walks.{now}
use Rattle.jc_exprs_worlds.specs.Scenes.{world_of}
use Rattle.jc_stmts_spec.specs.Courses.{Course as Counted}
use Rattle.jc_stmts_spec.specs.Typed.{begun_by, begun_place, begun_run}
use Rattle.jc_stmts_bodies.specs.Seen.{begins_seen}
use Rattle.jc_stmts_answers.proofs.Staying.{answers_below}
use Rattle.jc_stmts_course.specs.Nows.{stage}
use Rattle.jc_stmts_course.specs.Steps.{seen}
use Rattle.jc_stmts_first.specs.Firsts.{stmts_begun}
use Rattle.jc_stmts_first.proofs.Running.{begun_by_run, run_seen, told_there}
use Rattle.jc_stmts_first.proofs.beginning.begin.Goals as goal

pub returns-clause-stage : goal.returns-clause-stage
returns-clause-stage c =
    let d = c.args.course.now in
    let w = c.begun.new.walk in
    let m = begun_run (world_of c.args.methods.now.scene.now) c.args.place (begins_seen c.args.begins.now) in
    on_ok_weaker c.begun.result (λ e (k : Counted) same. run_seen m k d w same c.requires.course c.begun.ensures.grows e) c.begun.ensures.state

pub returns-clause-stmts : goal.returns-clause-stmts
returns-clause-stmts c =
    let d = c.args.course.now in
    let w = c.begun.new.walk in
    let W = world_of c.args.methods.now.scene.now in
    let b = begins_seen c.args.begins.now in
    let m = begun_run W c.args.place b in
    let at = begun_place W c.args.place b in
    let there = (ran m (now d.walk)).has in
    IfOk-weaker c.begun.result (λ list. stmts_of w.nodes list ≡ stmts_begun at there)
    (λ list. (k : Counted) → seen k ≡ stage d → (begun_by W c.args.place b k).stmts ≡ stmts_of w.nodes list)
    (λ list e k same. begun_by_run at (m k.env).told there (told_there m k d w same) ∙ sym e)
    c.begun.ensures.value

pub returns-clause-course : goal.returns-clause-course
returns-clause-course c =
    let d = c.args.course.now in
    on_ok_weaker c.begun.result (λ e. answers_below d.walk.nodes c.begun.new.walk.nodes d.answers c.begun.ensures.grows c.requires.course) c.begun.ensures.state
