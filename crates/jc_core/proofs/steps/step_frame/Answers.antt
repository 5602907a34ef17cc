use Rattle.std.proofs.Common.{sym, subst}
use Rattle.std.specs.Prelude.{OnErr, IsTrue}
use Rattle.std.specs.declared.option.Option.{Option}
use Rattle.jc_jvm.specs.Classes.{placed_at}
use Rattle.jc_rows.specs.declared.row.Placed.{Placed}
use Rattle.jc_core.specs.Memory.{placed_makes}
use Rattle.jc_core.proofs.Placed.{same_by}
use Rattle.jc_core.proofs.steps.step_frame.Goals as goal

pub returns-in-Some-clause-step : goal.returns-in-Some-clause-step
returns-in-Some-clause-step c =
    let now = c.args.now.now in
    let same = same_by c.args.program.now c.args.world.now now c.args.waiting.now (placed_at c.args.program.now now.class now.method now.at) c.in-Some.placed.now (sym c.in-Some.ensures) in
    rw same c.step_row.ensures.step

pub returns-in-Some-clause-memory : goal.returns-in-Some-clause-memory
returns-in-Some-clause-memory c =
    let P : Option Placed → Type 0 = λ o. OnErr c.step_row.result (IsTrue (placed_makes c.args.program.now c.args.world.now c.args.now.now c.args.waiting.now o)) in
    subst P c.in-Some.ensures c.step_row.ensures.memory
