use Rattle.std.proofs.Common.{refl}
use Rattle.jc_running.specs.Outcomes.{Thrown}
use Rattle.jc_pending.specs.declared.todo.Todo.TheVariants as todo
use Rattle.jc_evaluate.proofs.Onward.{begin_thrown, todo_is, wait_thrown}
use Rattle.jc_evaluate.proofs.todo.thrown.Goals as goal

pub returns-in-Begin : goal.returns-in-Begin
returns-in-Begin c = λ k coherent. begin_thrown c.args.program.now c.args.nodes.now c.args.depth k c.args.todo c.in-Begin._task c.args.address c.args.run.now.units c.args.run.now.state coherent c.in-Begin.is

pub returns-in-Wait : goal.returns-in-Wait
returns-in-Wait c = λ k coherent. wait_thrown c.args.program.now c.args.nodes.now c.args.depth k c.args.todo c.in-Wait._waiting c.args.address c.args.run.now.units c.args.run.now.state coherent c.in-Wait.is

pub returns-in-LeaveValue : goal.returns-in-LeaveValue
returns-in-LeaveValue c = λ k coherent. todo_is c.args.program.now c.args.nodes.now c.args.depth k todo.LeaveValue c.args.todo (Thrown c.args.address c.args.run.now.units c.args.run.now.state) c.leave_value.result c.leave_value.new.run c.in-LeaveValue.is (c.leave_value.ensures k coherent (Thrown c.args.address c.args.run.now.units c.args.run.now.state) refl)

pub returns-in-LeaveCompletion : goal.returns-in-LeaveCompletion
returns-in-LeaveCompletion c = λ k coherent. todo_is c.args.program.now c.args.nodes.now c.args.depth k todo.LeaveCompletion c.args.todo (Thrown c.args.address c.args.run.now.units c.args.run.now.state) c.leave_completion.result c.leave_completion.new.run c.in-LeaveCompletion.is (c.leave_completion.ensures k coherent (Thrown c.args.address c.args.run.now.units c.args.run.now.state) refl)

pub returns-in-LeaveNothing : goal.returns-in-LeaveNothing
returns-in-LeaveNothing c = λ k coherent. todo_is c.args.program.now c.args.nodes.now c.args.depth k todo.LeaveNothing c.args.todo (Thrown c.args.address c.args.run.now.units c.args.run.now.state) c.leave_nothing.result c.leave_nothing.new.run c.in-LeaveNothing.is (c.leave_nothing.ensures k coherent (Thrown c.args.address c.args.run.now.units c.args.run.now.state) refl)

pub returns-in-Back : goal.returns-in-Back
returns-in-Back c = λ k coherent. todo_is c.args.program.now c.args.nodes.now c.args.depth k (todo.Back c.in-Back.locals c.in-Back.frame) c.args.todo (Thrown c.args.address c.args.run.now.units c.args.run.now.state) c.back_value.result c.back_value.new.run c.in-Back.is (c.back_value.ensures k coherent (Thrown c.args.address c.args.run.now.units c.args.run.now.state) refl)
