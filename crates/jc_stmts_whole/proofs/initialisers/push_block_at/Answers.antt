use Rattle.std.proofs.Common.{◌≡◌, ap, sym, ◌∙◌, subst, ℕ, None, Option, List, []}
use Rattle.std.specs.Prelude.{IfOk, OnOk}
use Rattle.std.specs.Option.{option_copied}
use Rattle.jc_types.specs.declared.form.Ty.{Ty}
use Rattle.jc_declares.specs.HeadBreaks.{class_file}
use Rattle.jc_typed.specs.Parts.{Grows, stmt_of, stmts_of}
use Rattle.jc_exprs_nodes.specs.declared.walk.Walk.{Walk}
use Rattle.jc_typed.specs.Trees.{Block, MoreStmts, stmt}
use Rattle.jc_typed.proofs.Growing.{grows_both}
use Rattle.jc_exprs_parts_spec.specs.Worlds.{World, LocalIn}
use Rattle.jc_exprs_locals.specs.Scoped.{locals_of}
use Rattle.jc_stmts_spec.specs.Assembling.{assemble}
use Rattle.jc_stmts_spec.specs.Bodies.{OfBlock}
use Rattle.jc_stmts_spec.specs.Courses.{Course as Counted, items_on}
use Rattle.jc_stmts_spec.specs.Plans.{Jumps, enclosed, plan}
use Rattle.jc_stmts_spec.specs.Typed.{Parts, initialised_more, initialiser_world, no_jumps}
use Rattle.jc_stmts_course.specs.Nows.{stage}
use Rattle.jc_stmts_course.specs.Steps.{Stage, seen}
use Rattle.jc_stmts_first.specs.Firsts.{opened_stage}
use Rattle.jc_stmts_items.specs.Settings.{world_within}
use Rattle.jc_stmts_whole.specs.Parts.{IsParts}
use Rattle.jc_stmts_whole.specs.Programs.{heads_in, knowledge_in}
use Rattle.jc_stmts_whole.proofs.Behind.{block_behind, part_on, part_seen, stmts_kept}
use Rattle.jc_stmts_whole.proofs.Placing.{ok_both}
use Rattle.jc_stmts_whole.proofs.initialisers.push_block_at.Goals as goal

pub returns-clause-parts : goal.returns-clause-parts
returns-clause-parts c =
    let d = c.args.course.now in
    let e = c.reopen.new.course in
    let f = c.go_through_block.new.course in
    let m = c.push_block.new.course in
    let g = c.push_behind.new.course in
    let side = c.args.side.now in
    let T = side.program.table.now in
    let H = heads_in side.program in
    let ss = c.args.stmts.now in
    let n = c.args.at in
    let list = c.args.list in
    let last = c.in_ok-last.last in
    let file = class_file H side.class.0 in
    let setting = c.block_setting-setting.result in
    let W : List LocalIn → World = initialiser_world T H (knowledge_in side.program) side.class side.is_static None in
    let Going : (List LocalIn → World) → Option Ty → Jumps → Type 0 = λ X o j. (k : Counted) → seen k ≡ stage e → seen (items_on X o k (enclosed (plan j ss))) ≡ stage f in
    let going : Going W None no_jumps =
    subst (λ j. Going W None j) c.new-jumps.ensures
    (subst (λ o. Going W o c.new-jumps.result) c.block_setting-setting.ensures.of_result
    (subst (λ X. Going X (option_copied setting.of_result) c.new-jumps.result) c.block_setting-setting.ensures.world c.in_ok-go_through_block.ensures.stage)) in
    let Made : Jumps → ℕ → Type 0 = λ j x. (k : Counted) → seen k ≡ stage f → m.walk.found ≡ None → stmt_of m.walk.nodes last ≡ stmt (record { file = x; at = n }) (Block (assemble x j ss k.answers).it) in
    let made : Made no_jumps file = subst (λ x. Made no_jumps x) c.class_file-file.ensures (subst (λ j. Made j c.class_file-file.result) c.new-jumps.ensures c.in_ok-last.ensures.value) in
    let begun : opened_stage [] (stage d) ≡ stage e = subst (λ ls. opened_stage (locals_of ls) (stage d) ≡ stage e) c.new.ensures c.reopen.ensures.stage in
    let before : stmts_of m.walk.nodes list ≡ stmts_of d.walk.nodes list =
    stmts_kept d.walk.nodes m.walk.nodes list
    (subst (λ (w : Walk). Grows w.nodes m.walk.nodes) c.reopen.ensures.walk (grows_both e.walk.nodes f.walk.nodes m.walk.nodes c.in_ok-go_through_block.ensures.grows c.in_ok-last.ensures.grows))
    c.requires.list in
    ok_both c.push_behind.result (λ at. stmts_of g.walk.nodes at ≡ MoreStmts (stmts_of m.walk.nodes list) (stmt_of m.walk.nodes last))
    (λ at. (p : Parts) → IsParts p d list → IsParts (initialised_more T H (knowledge_in side.program) side.class side.is_static (OfBlock n ss) p) g at)
    (stage m ≡ stage g)
    (λ at is same p h.
    let s = part_seen W None no_jumps ss [] p.course d e f h.course begun going in
    block_behind W None no_jumps file n ss p d g list at h (s ∙ c.in_ok-last.ensures.stage ∙ same)
    (λ no. is ∙ ap (λ xs. MoreStmts xs (stmt_of m.walk.nodes last)) before ∙ ap (λ x. MoreStmts (stmts_of d.walk.nodes list) x)
    (made (part_on W None no_jumps ss [] p.course) s (ap (λ (x : Stage). x.standing.found) same ∙ no))))
    c.push_behind.ensures.value c.push_behind.ensures.stage
