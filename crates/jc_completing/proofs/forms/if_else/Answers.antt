use Rattle.std.proofs.Common.{[], List, ap, sym, ◌∙◌}
use Rattle.jc_running.specs.declared.value.Completion.{Completion}
use Rattle.jc_typed.specs.Parts.{arms_of, stmts_of}
use Rattle.jc_meaning.specs.Kept.{TypedRun}
use Rattle.jc_meaning.specs.Programs.{stmt_list}
use Rattle.jc_places.specs.Sorts.{Arm}
use Rattle.jc_pending.specs.Level.{if_on, run_all}
use Rattle.jc_pending.proofs.Lists.{arms_on}
use Rattle.jc_completing.proofs.forms.if_else.Goals as goal

pub returns : goal.returns
returns c = λ k coherent.
    let other : TypedRun Completion = run_all c.args.program.now c.args.depth (stmt_list (stmts_of c.args.nodes.now c.args.other)) in
    sym (ap (λ (m : TypedRun Completion). k.completion (m c.args.run.now.units c.args.run.now.state))
    (arms_on c.args.program.now c.args.depth (arms_of c.args.nodes.now c.args.arms) [] other
    ∙ ap (λ (xs : List Arm). if_on c.args.program.now c.args.depth xs other) c.in_ok-arms.ensures))
