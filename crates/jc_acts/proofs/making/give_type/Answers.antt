use Rattle.std.proofs.Common.{◌∙◌, ap, sym}
use Rattle.jc_types.specs.declared.form.Ty.{Ty}
use Rattle.jc_meaning.specs.Kept.{kept_by}
use Rattle.jc_meaning.specs.Expressions as e
use Rattle.jc_values.specs.Idle.{idle}
use Rattle.jc_acts.proofs.making.give_type.Goals as goal

pub returns : goal.returns
returns c =
    ap (λ (t : Ty). e.set_type c.args.program.now idle c.args.a c.args.k t c.args.run.now.units c.args.run.now.state)
    (sym (c.in_ok-kept.ensures ∙ ap (kept_by c.args.program.now.table) c.in_ok-closed.ensures))
    ∙ c.set_type.ensures c.args.program.now idle
