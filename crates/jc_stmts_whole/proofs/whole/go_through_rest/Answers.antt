use Rattle.std.proofs.Common.{◌≡◌, ap, sym, ◌∙◌, subst, ℕ, None, []}
use Rattle.std.specs.Prelude.{IfOk, OnOk}
use Rattle.std.proofs.lemmas.Result.{on_ok_weaker}
use Rattle.std.specs.Option.{option_copied}
use Rattle.jc_types.specs.Accessors.{result_of}
use Rattle.jc_typed.specs.Parts.{stmt_of}
use Rattle.jc_typed.specs.Trees.{Block, stmt}
use Rattle.jc_exprs_locals.specs.Scoped.{locals_of}
use Rattle.jc_stmts_spec.specs.Assembling.{assemble}
use Rattle.jc_stmts_spec.specs.Bodies.{MethodBody}
use Rattle.jc_stmts_bodies.specs.Seen.{begins_seen}
use Rattle.jc_stmts_spec.specs.Courses.{Course as Counted}
use Rattle.jc_stmts_spec.specs.Plans.{Returns}
use Rattle.jc_stmts_spec.specs.Typed.{method_jumps, rest_course, rest_stmt, returns_of}
use Rattle.jc_stmts_course.specs.Nows.{stage}
use Rattle.jc_stmts_course.specs.Steps.{Stage, seen}
use Rattle.jc_stmts_items.specs.Settings.{world_within}
use Rattle.jc_stmts_whole.specs.Programs.{heads_in, knowledge_in}
use Rattle.jc_stmts_whole.proofs.Placing.{ok_both}
use Rattle.jc_stmts_whole.proofs.Rests.{rest_made, rest_seen}
use Rattle.jc_stmts_whole.proofs.whole.go_through_rest.Goals as goal

pub returns-clause-stage : goal.returns-clause-stage
returns-clause-stage c =
    let d = c.args.course.now in
    let e = c.reopen.new.course in
    let f = c.go_through_block.new.course in
    let g = c.push_block.new.course in
    let p = c.args.program.now in
    let T = p.table.now in
    let i = c.body.inside in
    let b : MethodBody = record { method = i.method; begins = begins_seen i.begins; initialisers = i.initialisers; rest = i.rest.now } in
    let setting = c.method_setting-setting.result in
    let jumps : c.new-jumps.result ≡ method_jumps T b.method = c.new-jumps.ensures ∙ ap (λ r. record { round = []; returns = r }) c.returns_of.ensures in
    let Stages : MethodBody → Type 0 = λ x. OnOk c.push_block.result ((k : Counted) → seen k ≡ stage d → seen (rest_course T (heads_in p) (knowledge_in p) x k) ≡ stage g) in
    subst Stages c.body.view_is
    (on_ok_weaker c.push_block.result
    (λ same (k : Counted) is.
    rest_seen T (heads_in p) (knowledge_in p) b k (world_within setting) (option_copied setting.of_result) c.new-jumps.result (locals_of c.in_ok-locals.locals) d e f
    c.method_setting-setting.ensures.world c.method_setting-setting.ensures.of_result jumps c.in_ok-locals.ensures c.reopen.ensures.stage c.in_ok-go_through_block.ensures.stage is
    ∙ same)
    c.push_block.ensures.stage)

pub returns-clause-block : goal.returns-clause-block
returns-clause-block c =
    let d = c.args.course.now in
    let e = c.reopen.new.course in
    let f = c.go_through_block.new.course in
    let g = c.push_block.new.course in
    let p = c.args.program.now in
    let T = p.table.now in
    let i = c.body.inside in
    let b : MethodBody = record { method = i.method; begins = begins_seen i.begins; initialisers = i.initialisers; rest = i.rest.now } in
    let setting = c.method_setting-setting.result in
    let place = c.method_place-place.result in
    let j = c.new-jumps.result in
    let jumps : j ≡ method_jumps T b.method = c.new-jumps.ensures ∙ ap (λ r. record { round = []; returns = r }) c.returns_of.ensures in
    let Blocks : MethodBody → Type 0 = λ x.
    IfOk c.push_block.result (λ at. (k : Counted) → seen k ≡ stage d → g.walk.found ≡ None → stmt_of g.walk.nodes at ≡ rest_stmt T x (rest_course T (heads_in p) (knowledge_in p) x k)) in
    subst Blocks c.body.view_is
    (ok_both c.push_block.result
    (λ at. (k : Counted) → seen k ≡ stage f → g.walk.found ≡ None → stmt_of g.walk.nodes at ≡ stmt place (Block (assemble place.file j b.rest k.answers).it))
    (λ at. (k : Counted) → seen k ≡ stage d → g.walk.found ≡ None → stmt_of g.walk.nodes at ≡ rest_stmt T b (rest_course T (heads_in p) (knowledge_in p) b k))
    (stage f ≡ stage g)
    (λ at made same (k : Counted) is no.
    let q = rest_course T (heads_in p) (knowledge_in p) b k in
    let s = rest_seen T (heads_in p) (knowledge_in p) b k (world_within setting) (option_copied setting.of_result) j (locals_of c.in_ok-locals.locals) d e f
    c.method_setting-setting.ensures.world c.method_setting-setting.ensures.of_result jumps c.in_ok-locals.ensures c.reopen.ensures.stage c.in_ok-go_through_block.ensures.stage is in
    rest_made T (heads_in p) (knowledge_in p) b q.answers place j (stmt_of g.walk.nodes at) c.method_place-place.ensures jumps (made q s no))
    c.push_block.ensures.value c.push_block.ensures.stage)
