use Rattle.std.proofs.Common.{ℕ, Option, subst}
use Rattle.std.proofs.lemmas.Int.{to_z-of_z}
use Rattle.std.specs.Int.{w32}
use Rattle.jc_running.specs.declared.value.Completion.{Completion}
use Rattle.jc_running.specs.Outcomes.{bind, broken, give}
use Rattle.jc_typed.specs.Parts.{stmts_of}
use Rattle.jc_meaning.specs.Kept.{TypedRun}
use Rattle.jc_meaning.specs.Programs.{stmt_list}
use Rattle.jc_meaning.specs.Statements as s
use Rattle.jc_pending.specs.Leads.{Leads}
use Rattle.jc_pending.specs.Level.{inner, run}
use Rattle.jc_completing.proofs.statements.switch_on.Goals as goal

pub returns : goal.returns
returns c = λ k coherent.
    let last : Completion → TypedRun Completion = λ x. give (broken c.args.own x) in
    let same = to_z-of_z w32 c.args.n c.ranges.n in
    rw same at (subst (λ (o : Option ℕ). Leads c.args.program.now c.args.nodes.now c.args.depth k c.switch_behind.result c.switch_behind.new.run
    (k.completion (bind (s.run_from c.args.program.now (inner c.args.program.now c.args.depth) (run c.args.program.now c.args.depth) c.args.depth (stmt_list (stmts_of c.args.nodes.now c.args.stmts)) o) last c.args.run.now.units c.args.run.now.state)))
    c.in_ok-skips.ensures (c.switch_behind.ensures k coherent))
