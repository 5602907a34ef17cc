use Rattle.std.proofs.Common.{◌≡◌, ap, sym, ◌∙◌, ℕ, slice_get}
use Rattle.std.specs.Prelude.{IfOk, OnOk}
use Rattle.jc_typed.specs.Parts.{operand_of, stmt_of, stmts_of}
use Rattle.jc_typed.specs.Trees.{Initialise, MoreStmts, stmt}
use Rattle.jc_typed.proofs.Growing.{grows_both}
use Rattle.jc_stmts_spec.specs.Bodies.{OfField}
use Rattle.jc_stmts_spec.specs.Typed.{Parts, field_place_in, initialised_more}
use Rattle.jc_stmts_course.specs.Nows.{stage}
use Rattle.jc_stmts_whole.specs.Parts.{IsParts, field_run}
use Rattle.jc_stmts_whole.specs.Programs.{heads_in, knowledge_in}
use Rattle.jc_stmts_whole.proofs.Behind.{field_behind, stmts_kept}
use Rattle.jc_stmts_whole.proofs.Placing.{ok_both}
use Rattle.jc_stmts_whole.proofs.initialisers.push_field.Goals as goal

pub returns-clause-parts : goal.returns-clause-parts
returns-clause-parts c =
    let d = c.args.course.now in
    let e = c.go_through_field.new.course in
    let f = c.push_stmt.new.course in
    let g = c.push_behind.new.course in
    let side = c.args.side.now in
    let T = side.program.table.now in
    let field = c.args.field in
    let init = c.args.init.now in
    let list = c.args.list in
    let value = c.in_ok-value.value in
    let place = field_place_in (slice_get T.fields field.0) in
    let m = field_run T (heads_in side.program) (knowledge_in side.program) side.class side.is_static field init in
    let made : stmt_of f.walk.nodes c.in_ok-last.last ≡ stmt place (Initialise field (operand_of e.walk.nodes value)) =
    c.in_ok-last.ensures.value ∙ ap (λ x. stmt x (Initialise field (operand_of e.walk.nodes value))) c.field_place-place.ensures in
    let before : stmts_of f.walk.nodes list ≡ stmts_of d.walk.nodes list =
    stmts_kept d.walk.nodes f.walk.nodes list (grows_both d.walk.nodes e.walk.nodes f.walk.nodes c.in_ok-value.ensures.grows c.in_ok-last.ensures.grows) c.requires.list in
    ok_both c.push_behind.result (λ at. stmts_of g.walk.nodes at ≡ MoreStmts (stmts_of f.walk.nodes list) (stmt_of f.walk.nodes c.in_ok-last.last))
    (λ at. (p : Parts) → IsParts p d list → IsParts (initialised_more T (heads_in side.program) (knowledge_in side.program) side.class side.is_static (OfField field init) p) g at)
    (stage f ≡ stage g)
    (λ at is same p h.
    field_behind T field m p d e g list at (operand_of e.walk.nodes value) h (c.in_ok-value.ensures.stage p.course h.course) (c.in_ok-value.ensures.value p.course h.course)
    (c.in_ok-last.ensures.stage ∙ same) (is ∙ ap (λ xs. MoreStmts xs (stmt_of f.walk.nodes c.in_ok-last.last)) before ∙ ap (λ x. MoreStmts (stmts_of d.walk.nodes list) x) made))
    c.push_behind.ensures.value c.push_behind.ensures.stage
