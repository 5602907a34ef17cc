use Rattle.std.proofs.Common.{List, ap, sym, ◌∙◌}
use Rattle.jc_typed.specs.Trees.{Step}
use Rattle.jc_typed.specs.Parts.{parts, step_over, steps_of}
use Rattle.jc_meaning.specs.Steps as t
use Rattle.jc_pending.specs.Level.{body, ready}
use Rattle.jc_pending.proofs.Lists.{steps_more}
use Rattle.jc_expressing.proofs.forms.steps.Goals as goal

-- the steps end in the last one
pub returns-in-More : goal.returns-in-More
returns-in-More c = λ k coherent.
    sym (ap k.value
    (ap (λ (ss : List Step). t.steps c.args.program.now (body c.args.program.now c.args.depth) (ready c.args.program.now c.args.depth) ss c.args.value c.args.run.now.units c.args.run.now.state) c.in-More.ensures.value
    ∙ steps_more c.args.program.now (body c.args.program.now c.args.depth) (ready c.args.program.now c.args.depth) (steps_of c.args.nodes.now c.in-More.before) (step_over (parts c.args.nodes.now) c.in-More.last) c.args.value c.args.run.now.units c.args.run.now.state))
