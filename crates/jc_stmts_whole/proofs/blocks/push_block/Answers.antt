use Rattle.std.proofs.Common.{◌≡◌, ap, sym, ◌∙◌, ℕ, None}
use Rattle.std.specs.Prelude.{IfOk}
use Rattle.jc_typed.specs.Parts.{stmt_of}
use Rattle.jc_typed.specs.Trees.{stmt, Block}
use Rattle.jc_stmts_spec.specs.Assembling.{assemble}
use Rattle.jc_stmts_spec.specs.Courses.{Course as Counted}
use Rattle.jc_stmts_course.specs.Nows.{stage}
use Rattle.jc_stmts_course.specs.Steps.{Stage, seen}
use Rattle.jc_stmts_whole.proofs.Going.{answers_seen}
use Rattle.jc_stmts_whole.proofs.Placing.{ok_both}
use Rattle.jc_stmts_whole.proofs.blocks.push_block.Goals as goal

pub returns-clause-value : goal.returns-clause-value
returns-clause-value c =
    let d = c.args.course.now in
    let e = c.push_made.new.course in
    let of = c.args.scene in
    ok_both c.push_made.result
    (λ at. d.walk.found ≡ None → stmt_of e.walk.nodes at ≡ stmt c.args.place (Block (assemble of.file of.jumps.now c.args.stmts.now (stage d).answers).it))
    (λ at. (k : Counted) → seen k ≡ stage d → e.walk.found ≡ None → stmt_of e.walk.nodes at ≡ stmt c.args.place (Block (assemble of.file of.jumps.now c.args.stmts.now k.answers).it))
    (stage d ≡ stage e)
    (λ at v same (k : Counted) is n.
    let before : d.walk.found ≡ None = ap (λ (s : Stage). s.standing.found) same ∙ n in
    v before ∙ ap (λ xs. stmt c.args.place (Block (assemble of.file of.jumps.now c.args.stmts.now xs).it)) (sym (answers_seen k d is before)))
    c.push_made.ensures.value c.push_made.ensures.stage
