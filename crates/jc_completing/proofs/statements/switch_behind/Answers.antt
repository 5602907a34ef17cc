use Rattle.std.proofs.Common.{ap}
use Rattle.jc_running.specs.declared.value.Completion.{Completion}
use Rattle.jc_running.specs.Outcomes.{Out, broken, give, on_both, throw}
use Rattle.jc_typed.specs.Parts.{stmts_of}
use Rattle.jc_meaning.specs.Kept.{TypedRun, TypedState}
use Rattle.jc_meaning.specs.Programs.{stmt_list}
use Rattle.jc_pending.specs.Level.{inner, run, stmts_back}
use Rattle.jc_completing.proofs.Skips.{run_kept}
use Rattle.jc_completing.proofs.statements.switch_behind.Goals as goal

pub returns : goal.returns
returns c = λ k coherent.
    let last : Completion → TypedRun Completion = λ x. give (broken c.args.own x) in
    ap (λ (o : Out TypedState Completion). k.completion (on_both o last throw))
    (run_kept c.args.program.now (inner c.args.program.now c.args.depth) (run c.args.program.now c.args.depth) c.args.depth c.args.skips (stmt_list (stmts_of c.args.nodes.now c.args.stmts)) (stmts_back c.args.nodes.now c.in_ok-kept.kept) c.args.run.now.units c.args.run.now.state c.in_ok-kept.ensures)
