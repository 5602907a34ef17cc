use Rattle.std.proofs.Common.{Ok}
use Rattle.jc_pending.specs.declared.todo.Given.TheVariants as g
use Rattle.jc_pending.specs.declared.todo.Todo.TheVariants as todo
use Rattle.jc_evaluate.proofs.Onward.{put_on}
use Rattle.jc_evaluate.proofs.turning.begin.Goals as goal

pub returns : goal.returns
returns c = λ P r w h. put_on P c.args.stack.now c.push.new.self (record { level = c.args.level; todo = todo.Begin c.args.task }) (Ok g.Nothing) r w c.in_ok-push.ensures.ok h
