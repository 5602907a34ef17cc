use Rattle.std.proofs.Common.{[], subst}
use Rattle.jc_types.specs.declared.erased.Erased.{Erased}
use Rattle.jc_types.specs.Erasing.{erasure}
use Rattle.jc_meaning.specs.Calls.{entered}
use Rattle.jc_values.specs.Doing.{Does}
use Rattle.jc_acts.proofs.frames.entered_at.Goals as goal

pub returns : goal.returns
returns c =
    subst (λ (x : Erased). Does (entered c.args.program.now x (erasure c.args.program.now.table [] c.args.own.now) c.args.v c.args.run.now.units c.args.run.now.state) c.entered.result c.entered.new.run) c.closed_erasure-from.ensures
    (subst (λ (x : Erased). Does (entered c.args.program.now c.closed_erasure-from.result x c.args.v c.args.run.now.units c.args.run.now.state) c.entered.result c.entered.new.run) c.closed_erasure-to.ensures c.entered.ensures)
