use Rattle.std.proofs.Common.{ap, sym, ◌∙◌, arith}
use Rattle.jc_pending.proofs.Entering.{use_at, use_none, use_spent}
use Rattle.jc_pending.proofs.Halting.{nothing_going}
use Rattle.jc_calling.proofs.classes.first_use.Goals as goal

pub returns-then-depth-eq0 : goal.returns-then-depth-eq0
returns-then-depth-eq0 c = λ k coherent. nothing_going k c.args.run.now.state coherent ∙ sym (ap k.nothing (use_none c.args.program.now c.args.depth c.args.of c.args.run.now.units c.args.run.now.state c.if-depth-eq0.true))

pub returns-then-run-eq0 : goal.returns-then-run-eq0
returns-then-run-eq0 c = λ k coherent. nothing_going k c.args.run.now.state coherent ∙ sym (ap k.nothing (use_spent c.args.program.now c.args.depth c.args.of c.args.run.now.units c.args.run.now.state c.if-run-eq0.true))

pub returns : goal.returns
returns c = λ k coherent. sym (ap k.nothing (use_at c.args.program.now c.args.depth c.args.of c.args.run.now.units c.args.run.now.state (omega arith) (omega arith)))
