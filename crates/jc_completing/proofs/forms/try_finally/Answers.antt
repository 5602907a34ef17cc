use Rattle.std.proofs.Common.{◌≡◌, [], List, true, false, ap, sym, ◌∙◌}
use Rattle.jc_running.specs.declared.value.Completion.{Completion}
use Rattle.jc_running.specs.Outcomes.{bind, both_ways, give, instead, throw}
use Rattle.jc_typed.specs.Trees.{Stmt}
use Rattle.jc_typed.specs.Parts.{catches_of, stmt_of, stmts_of}
use Rattle.jc_meaning.specs.Kept.{TypedRun}
use Rattle.jc_meaning.specs.Programs.{stmt_list}
use Rattle.jc_meaning.specs.Statements as s
use Rattle.jc_pending.specs.Level.{inner, run, run_all}
use Rattle.jc_completing.proofs.Skips.{none_back}
use Rattle.jc_completing.proofs.Turning.{finally_some}
use Rattle.jc_completing.proofs.forms.try_finally.Goals as goal

pub returns : goal.returns
returns c = λ k coherent.
    let m : TypedRun Completion = s.try c.args.program.now (inner c.args.program.now c.args.depth) (run c.args.program.now c.args.depth) c.args.depth (stmt_of c.args.nodes.now c.args.body) (catches_of c.args.nodes.now c.args.catches) in
    let some : stmt_list (stmts_of c.args.nodes.now c.args.last) ≡ [] → ⊥ = λ none.
    let e : false ≡ true = c.if-is_empty.ensures.1 (none_back (stmt_of c.args.nodes.now) c.in_ok-stmts.stmts (c.in_ok-stmts.ensures ∙ none)) in
    cc in
    sym (ap k.completion
    (finally_some c.args.program.now (inner c.args.program.now c.args.depth) (run c.args.program.now c.args.depth) c.args.depth m (stmt_list (stmts_of c.args.nodes.now c.args.last)) c.args.run.now.units c.args.run.now.state some
    ∙ ap (λ (ss : List Stmt). both_ways m (λ x. bind (run_all c.args.program.now c.args.depth ss) (λ y. instead y (give x))) (λ a. bind (run_all c.args.program.now c.args.depth ss) (λ y. instead y (throw a))) c.args.run.now.units c.args.run.now.state) (sym c.in_ok-stmts.ensures)))
