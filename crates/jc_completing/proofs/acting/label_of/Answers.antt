use Rattle.std.proofs.Common.{◌≡◌, ℕ, List, Option, ap, map, sym, ◌∙◌}
use Rattle.std.proofs.lemmas.Int.{to_z-of_z}
use Rattle.std.specs.Int.{w32}
use Rattle.jc_running.specs.Outcomes.{stop}
use Rattle.jc_typed.specs.Parts.{case_over}
use Rattle.jc_typed.specs.Trees.{Case}
use Rattle.jc_meaning.specs.Statements as s
use Rattle.jc_values.specs.Idle.{idle}
use Rattle.jc_acts.specs.Cases.{labelled}
use Rattle.jc_acts.proofs.Cases.{same_default_in, same_labelled}
use Rattle.jc_completing.proofs.acting.label_of.Goals as goal

pub returns : goal.returns
returns c = λ ps.
    let same = to_z-of_z w32 c.args.n c.ranges.n in
    let first : c.labelled.result ≡ labelled c.args.n c.args.cases.now = rw same at c.labelled.ensures in
    let cases : List Case = map (case_over ps) c.args.cases.now in
    c.first_of.ensures
    ∙ (ap (λ (o : Option ℕ). s.or_else c.args.program.now idle (λ x. stop) 0 o c.default_in.result) (first ∙ sym (same_labelled c.args.program.now idle (λ x. stop) 0 ps c.args.n c.args.cases.now))
    ∙ ap (λ (o : Option ℕ). s.or_else c.args.program.now idle (λ x. stop) 0 (s.labelled c.args.program.now idle (λ x. stop) 0 c.args.n cases) o) (c.default_in.ensures ∙ sym (same_default_in c.args.program.now idle (λ x. stop) 0 ps c.args.cases.now)))
