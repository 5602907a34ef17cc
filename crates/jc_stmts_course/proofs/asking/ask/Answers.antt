use Rattle.std.proofs.Common.{◌≡◌, sym, subst}
use Rattle.std.specs.Prelude.{OnOk}
use Rattle.std.specs.Option.{option_copied}
use Rattle.jc_exprs_nodes_spec.specs.Gates.{gated}
use Rattle.jc_exprs_nodes.specs.Walks.{has, now}
use Rattle.jc_stmts_plan.specs.Seen.{want_seen}
use Rattle.jc_stmts_wants.specs.Wanting.{has_operand, wanted_by}
use Rattle.jc_stmts_course.specs.Nows.{stage}
use Rattle.jc_stmts_course.specs.Steps.{Stage}
use Rattle.jc_stmts_course.proofs.Ending.{asked_at}
use Rattle.jc_stmts_course.proofs.Resuming.{gated_later}
use Rattle.jc_stmts_course.proofs.asking.ask.Goals as goal

pub returns-clause-stage : goal.returns-clause-stage
returns-clause-stage c =
    let d = c.args.course.now in
    let w = c.wanted.new.walk in
    let wanting = c.args.wanting.now in
    let rule = wanted_by wanting.table.now (option_copied wanting.result) wanting.file (want_seen c.args.want) in
    let r = gated rule (has d.walk.nodes c.args.at) (now d.walk) in
    let e = asked_at d w c.requires.course c.in_ok-operand.ensures.grows (want_seen c.args.want) r (has_operand w.nodes c.in_ok-operand.operand)
    (gated_later rule (has d.walk.nodes c.args.at) (now d.walk)) c.in_ok-operand.ensures.state c.in_ok-operand.ensures.value in
    subst (λ (x : Stage). OnOk c.keep.result (x ≡ stage c.keep.new.course)) (sym e) c.keep.ensures.stage
