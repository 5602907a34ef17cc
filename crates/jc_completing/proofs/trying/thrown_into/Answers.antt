use Rattle.std.proofs.Common.{Option, subst}
use Rattle.jc_types.specs.declared.form.Ty.{Ty}
use Rattle.jc_types.specs.declared.erased.Erased.{Erased}
use Rattle.jc_running.specs.Outcomes.{on_both, throw}
use Rattle.jc_heaps.specs.declared.state.Object.{Object}
use Rattle.jc_heaps.specs.States.{some_or_wrong}
use Rattle.jc_typed.specs.Parts.{catches_of}
use Rattle.jc_meaning.specs.Kept.{typed_keeping}
use Rattle.jc_meaning.specs.Statements as s
use Rattle.jc_pending.specs.Leads.{Leads}
use Rattle.jc_pending.specs.Level.{inner, run}
use Rattle.jc_completing.proofs.trying.thrown_into.Goals as goal

pub returns : goal.returns
returns c = λ k coherent.
    subst (λ (x : Option (Object Ty)). Leads c.args.program.now c.args.nodes.now c.args.depth k c.catch_in.result c.catch_in.new.run
    (k.completion (on_both (some_or_wrong x c.args.run.now.units c.args.run.now.state) (λ o. s.caught c.args.program.now (inner c.args.program.now c.args.depth) (run c.args.program.now c.args.depth) c.args.depth (catches_of c.args.nodes.now c.args.catches) c.args.address ((typed_keeping c.args.program.now.table).erased o.kept) (throw c.args.address)) throw)))
    c.in-Some.ensures.value
    (subst (λ (e : Erased). Leads c.args.program.now c.args.nodes.now c.args.depth k c.catch_in.result c.catch_in.new.run
    (k.completion (s.caught c.args.program.now (inner c.args.program.now c.args.depth) (run c.args.program.now c.args.depth) c.args.depth (catches_of c.args.nodes.now c.args.catches) c.args.address e (throw c.args.address) c.args.run.now.units c.args.run.now.state)))
    c.closed_erasure-e.ensures (c.catch_in.ensures k coherent))
