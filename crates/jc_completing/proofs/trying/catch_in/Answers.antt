use Rattle.std.proofs.Common.{[], Option, ap, subst, sym, ◌∙◌}
use Rattle.jc_running.specs.declared.value.Completion.{Completion}
use Rattle.jc_running.specs.Outcomes.{Out}
use Rattle.jc_typed.specs.Parts.{catches_of}
use Rattle.jc_meaning.specs.Kept.{TypedRun, TypedState}
use Rattle.jc_places.specs.Sorts.{Catch}
use Rattle.jc_pending.specs.Leads.{Leads}
use Rattle.jc_completing.specs.Catching.{taken}
use Rattle.jc_completing.proofs.Catches.{caught_first}
use Rattle.jc_completing.proofs.trying.catch_in.Goals as goal

pub returns : goal.returns
returns c = λ k coherent.
    subst (λ (o : Out TypedState Completion). Leads c.args.program.now c.args.nodes.now c.args.depth k c.taken.result c.taken.new.run (k.completion o))
    (ap (λ (x : Option Catch). taken c.args.program.now c.args.depth c.args.address x c.args.run.now.units c.args.run.now.state) (sym c.in_ok-clause.ensures)
    ∙ sym (ap (λ (m : TypedRun Completion). m c.args.run.now.units c.args.run.now.state) (caught_first c.args.program.now c.args.depth (catches_of c.args.nodes.now c.args.catches) [] c.args.address c.args.e)))
    (c.taken.ensures k coherent)
