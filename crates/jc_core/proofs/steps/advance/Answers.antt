use Rattle.std.proofs.Common.{◌≡◌, ◌∙◌, ◌-◌, ap, arith}
use Rattle.jc_jvm.specs.Runs.{run_by, run_of}
use Rattle.jc_jvm.specs.Thrown.{Going}
use Rattle.jc_core.specs.Ran.{told}
use Rattle.jc_core.proofs.Runs.{told-suc}
use Rattle.jc_stepping.specs.Done.{step_done}
use Rattle.jc_stepping.specs.declared.did.Did.{Did}
use Rattle.jc_waiting.specs.Onwards.{state_of}
use Rattle.jc_waiting.specs.declared.onward.Onward.{Onward}
use Rattle.jc_waiting.specs.declared.onward.Onward.TheVariants.{Runs}
use Rattle.jc_core.proofs.steps.advance.Goals as goal

pub steps-preserved : goal.steps-preserved
steps-preserved c =
    let p = c.args.program.now in
    let after = c.step_frame.new in
    record {
      fewer = omega (arith, c.steps.invariant.fewer);
      run = λ input.
          c.steps.invariant.run input
          ∙ told-suc p (c.steps.left - 1) c.steps.left (Going c.steps.world c.steps.now c.steps.waiting) input _ (omega (arith, c.steps-test.true)) c.in_ok-did.ensures.step
          ∙ ap (λ (d : Did). told (run_by (step_done p d after.world after.now after.waiting) input (run_of p (c.steps.left - 1)))) c.in-Moves-Runs.is
          ∙ ap (λ (o : Onward). told (run_of p (c.steps.left - 1) (state_of o after.world after.now after.waiting) input)) (let runs : c.in-Moves-Runs.field-0 ≡ Runs = cc in runs);
    }

pub returns-in_default-clause-run : goal.returns-in_default-clause-run
returns-in_default-clause-run c = λ input.
    c.steps.invariant.run input
    ∙ told-suc c.args.program.now (c.steps.left - 1) c.steps.left (Going c.steps.world c.steps.now c.steps.waiting) input _ (omega (arith, c.steps-test.true)) c.in_ok-did.ensures.step

pub returns-in_default-2-clause-run : goal.returns-in_default-2-clause-run
returns-in_default-2-clause-run c = λ input.
    c.steps.invariant.run input
    ∙ told-suc c.args.program.now (c.steps.left - 1) c.steps.left (Going c.steps.world c.steps.now c.steps.waiting) input _ (omega (arith, c.steps-test.true)) c.in_ok-did.ensures.step
