use Rattle.std.proofs.Common.{◌≡◌, ◌∙◌, List, drop, sym, ap, arith}
use Rattle.std.specs.declared.option.Option.TheVariants.{Some, None}
use Rattle.jc_class_out.specs.declared.model.ClassModel.{ClassModel}
use Rattle.jc_jvm.specs.Runs.{run_by, run_of}
use Rattle.jc_core.specs.Ran.{told}
use Rattle.jc_core.specs.States.{classes_of, state_in, answered, step_told}
use Rattle.jc_core.specs.declared.machine.Stepped.{Stepped}
use Rattle.jc_core.proofs.Runs.{run_end, run_read, run_done, run_ended, told_by}
use Rattle.jc_core.proofs.machine.Core.run_for.Goals as goal

pub returns-then-is_some-clause-run : goal.returns-then-is_some-clause-run
returns-then-is_some-clause-run c =
    run_ended (classes_of c.args.self.now) c.steps.output (drop c.steps.taken c.args.input.now) c.steps.taken c.steps.left (state_in c.steps.self) c.ending.result _ c.ending.ensures (sym c.is_some.ensures ∙ c.if-is_some.true) c.steps.invariant.run

pub returns-clause-run : goal.returns-clause-run
returns-clause-run c =
    run_done (classes_of c.args.self.now) c.steps.output (drop c.steps.taken c.args.input.now) c.steps.taken c.steps.left (state_in c.steps.self) _ (omega arith) c.steps.invariant.run

-- the input's end
pub steps-preserved : goal.steps-preserved
steps-preserved c =
    let cs = classes_of c.args.self.now in
    let s = state_in c.steps.self in
    let after = state_in c.advance.new.self in
    let input = drop c.steps.taken c.args.input.now in
    let left = c.in_ok-progress.progress.left in
    let same : classes_of c.advance.new.self ≡ cs = c.in_ok-progress.ensures.classes ∙ c.steps.invariant.classes in
    let ran = told_by cs (classes_of c.steps.self) c.steps.left left s after c.in_ok-progress.progress.last input c.steps.invariant.classes (c.in_ok-progress.ensures.run input) in
    record {
      classes = c.answer-in-None.ensures.classes ∙ same;
      run = run_end cs c.steps.output c.args.input.now c.steps.taken c.steps.left left s (state_in c.answer-in-None.new.self) (answered cs c.in-Asks.next after) _
          (ran ∙ ap (λ (t : Stepped). told (run_by (step_told cs t after) input (run_of cs left))) c.in-Asks.is)
          (sym c.in-None.ensures.value)
          (c.answer-in-None.ensures.state ∙ ap (λ (ds : List ClassModel). answered ds c.in-Asks.next after None) same)
          c.steps.invariant.run;
    }

-- a byte of the input
pub steps-preserved-in-Some : goal.steps-preserved-in-Some
steps-preserved-in-Some c =
    let cs = classes_of c.args.self.now in
    let s = state_in c.steps.self in
    let after = state_in c.advance.new.self in
    let input = drop c.steps.taken c.args.input.now in
    let left = c.in_ok-progress.progress.left in
    let same : classes_of c.advance.new.self ≡ cs = c.in_ok-progress.ensures.classes ∙ c.steps.invariant.classes in
    let ran = told_by cs (classes_of c.steps.self) c.steps.left left s after c.in_ok-progress.progress.last input c.steps.invariant.classes (c.in_ok-progress.ensures.run input) in
    record {
      classes = c.answer.ensures.classes ∙ same;
      run = run_read cs c.steps.output c.args.input.now c.steps.taken c.steps.left left c.in-Some.byte s (state_in c.answer.new.self) (answered cs c.in-Asks.next after) _
          (ran ∙ ap (λ (t : Stepped). told (run_by (step_told cs t after) input (run_of cs left))) c.in-Asks.is)
          (sym c.in-Some.ensures.value)
          (c.answer.ensures.state ∙ ap (λ (ds : List ClassModel). answered ds c.in-Asks.next after (Some c.in-Some.byte)) same)
          c.steps.invariant.run;
    }
