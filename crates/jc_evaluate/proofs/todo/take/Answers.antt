use Rattle.std.proofs.Common.{◌≡◌, subst, sym}
use Rattle.jc_running.specs.Outcomes.{Wrong}
use Rattle.jc_pending.specs.Frames.{begun, left_to_do}
use Rattle.jc_pending.specs.Leads.{given_on}
use Rattle.jc_pending.specs.declared.todo.Todo.{Todo}
use Rattle.jc_evaluate.proofs.Onward.{unfit_ends}
use Rattle.jc_evaluate.proofs.todo.take.Goals as goal

pub returns-in-None : goal.returns-in-None
returns-in-None c = λ k coherent.
    unfit_ends c.args.program.now c.args.nodes.now c.args.depth k c.args.todo _ coherent
    (subst (λ (x : Todo). given_on (left_to_do c.args.program.now c.args.nodes.now c.args.depth x k) c.args.given c.args.run.now ≡ (left_to_do c.args.program.now c.args.nodes.now c.args.depth x k).value Wrong)
    (sym c.in-Begin.is)
    (c.in-None.ensures (begun c.args.program.now c.args.nodes.now c.args.depth c.in-Begin.task k) c.args.run.now))
