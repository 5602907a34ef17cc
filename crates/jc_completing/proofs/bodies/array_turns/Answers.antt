use Rattle.std.proofs.Common.{ap, sym, ◌∙◌, arith}
use Rattle.jc_completing.proofs.Turning.{turns_at, turns_none, turns_spent}
use Rattle.jc_pending.specs.Loops.{array_turn}
use Rattle.jc_pending.proofs.Halting.{completion_going}
use Rattle.jc_completing.proofs.bodies.array_turns.Goals as goal

pub returns-then-left-eq0 : goal.returns-then-left-eq0
returns-then-left-eq0 c = λ k coherent. completion_going k c.args.run.now.state coherent ∙ sym (ap k.completion (turns_none c.args.left (array_turn c.args.program.now c.args.nodes.now c.args.depth c.args.each c.args.array) c.args.at c.args.run.now.units c.args.run.now.state c.if-left-eq0.true))

pub returns-then-run-eq0 : goal.returns-then-run-eq0
returns-then-run-eq0 c = λ k coherent. completion_going k c.args.run.now.state coherent ∙ sym (ap k.completion (turns_spent c.args.left (array_turn c.args.program.now c.args.nodes.now c.args.depth c.args.each c.args.array) c.args.at c.args.run.now.units c.args.run.now.state c.if-run-eq0.true))

pub returns : goal.returns
returns c = λ k coherent. sym (ap k.completion (turns_at c.args.left (array_turn c.args.program.now c.args.nodes.now c.args.depth c.args.each c.args.array) c.args.at c.args.run.now.units c.args.run.now.state (omega arith) (omega arith)))
