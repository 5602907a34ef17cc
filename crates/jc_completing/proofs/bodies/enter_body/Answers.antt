use Rattle.std.proofs.Common.{ap, sym, ◌∙◌, arith}
use Rattle.jc_pending.proofs.Entering.{body_at, body_none, body_spent}
use Rattle.jc_pending.proofs.Halting.{completion_going}
use Rattle.jc_completing.proofs.bodies.enter_body.Goals as goal

pub returns-then-depth-eq0 : goal.returns-then-depth-eq0
returns-then-depth-eq0 c = λ k coherent. completion_going k c.args.run.now.state coherent ∙ sym (ap k.completion (body_none c.args.program.now c.args.depth c.args.method c.args.run.now.units c.args.run.now.state c.if-depth-eq0.true))

pub returns-then-run-eq0 : goal.returns-then-run-eq0
returns-then-run-eq0 c = λ k coherent. completion_going k c.args.run.now.state coherent ∙ sym (ap k.completion (body_spent c.args.program.now c.args.depth c.args.method c.args.run.now.units c.args.run.now.state c.if-run-eq0.true))

pub returns : goal.returns
returns c = λ k coherent. sym (ap k.completion (body_at c.args.program.now c.args.depth c.args.method c.args.run.now.units c.args.run.now.state (omega arith) (omega arith)))
