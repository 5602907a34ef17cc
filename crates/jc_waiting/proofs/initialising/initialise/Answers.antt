use Rattle.std.proofs.Common.{◌+◌, ◌-◌, ◌∙◌, ℕ, List, ap, arith, length, sym}
use Rattle.jc_class_out.specs.declared.model.ClassModel.{ClassModel}
use Rattle.jc_jvm.specs.Initialising.{initialised_on, resumed}
use Rattle.jc_jvm.specs.Thrown.{fault_among}
use Rattle.jc_jvm.specs.declared.world.Fault.TheVariants.{NoClassDefFound}
use Rattle.jc_waiting.proofs.Begun.{not_begun}
use Rattle.jc_waiting.proofs.Readied.{begun_on, if_state, if_wanting, making_on}
use Rattle.jc_waiting.specs.Memory.{fault_makes, initialised_makes, resumed_makes}
use Rattle.jc_waiting.specs.Onwards.{state_of}
use Rattle.jc_waiting.specs.declared.initialising.First.TheVariants as first
use Rattle.jc_waiting.proofs.initialising.initialise.Goals as goal

pub returns-in-Failed-clause-state : goal.returns-in-Failed-clause-state
returns-in-Failed-clause-state c =
    if_state c.throw_fault_among.result (λ on. state_of on c.throw_fault_among.new.world c.throw_fault_among.new.now c.throw_fault_among.new.waiting) (fault_among c.args.classes.now c.set_state.new.world c.push.new.self NoClassDefFound) (initialised_on c.args.classes.now (length c.args.classes.now) c.args.class c.args.world.now c.args.waiting.now)
    (sym c.loop-begun.invariant.state
    ∙ sym (begun_on c.args.classes.now (length c.args.classes.now - c.loop-begun.begun) (length c.args.classes.now - (c.loop-begun.begun + 1)) c.loop-begun.here c.loop-begun.world c.set_state.new.world c.loop-begun.waiting c.push.new.self first.Failed (omega (arith, c.loop-begun-test.true, ap (λ (l : List ClassModel). length l) c.models-steps.ensures)) (omega arith) c.set_state.ensures c.in-Ok.ensures.ok (sym c.first_state.ensures ∙ c.in-Failed.is)))
    c.throw_fault_among.ensures.state

pub returns-in-Failed-clause-memory : goal.returns-in-Failed-clause-memory
returns-in-Failed-clause-memory c =
    if_wanting c.throw_fault_among.result (fault_makes c.args.classes.now NoClassDefFound) (initialised_makes c.args.classes.now (length c.args.classes.now) c.args.class c.args.world.now (resumed_makes c.args.classes.now c.args.waiting.now))
    (sym c.loop-begun.invariant.memory
    ∙ sym (making_on c.args.classes.now (length c.args.classes.now - c.loop-begun.begun) (length c.args.classes.now - (c.loop-begun.begun + 1)) c.loop-begun.here c.loop-begun.world c.set_state.new.world c.loop-begun.waiting c.push.new.self first.Failed (omega (arith, c.loop-begun-test.true, ap (λ (l : List ClassModel). length l) c.models-steps.ensures)) (omega arith) c.set_state.ensures c.in-Ok.ensures.ok (sym c.first_state.ensures ∙ c.in-Failed.is)))
    c.throw_fault_among.ensures.memory

pub returns-in-Nothing-clause-state : goal.returns-in-Nothing-clause-state
returns-in-Nothing-clause-state c =
    if_state c.resume.result (λ on. state_of on c.resume.new.world c.resume.new.now c.resume.new.waiting) (resumed c.args.classes.now c.set_state.new.world c.push.new.self) (initialised_on c.args.classes.now (length c.args.classes.now) c.args.class c.args.world.now c.args.waiting.now)
    (sym c.loop-begun.invariant.state
    ∙ sym (begun_on c.args.classes.now (length c.args.classes.now - c.loop-begun.begun) (length c.args.classes.now - (c.loop-begun.begun + 1)) c.loop-begun.here c.loop-begun.world c.set_state.new.world c.loop-begun.waiting c.push.new.self first.Nothing (omega (arith, c.loop-begun-test.true, ap (λ (l : List ClassModel). length l) c.models-steps.ensures)) (omega arith) c.set_state.ensures c.in-Ok.ensures.ok (sym c.first_state.ensures ∙ c.in-Nothing.is)))
    c.resume.ensures.state

pub returns-in-Nothing-clause-memory : goal.returns-in-Nothing-clause-memory
returns-in-Nothing-clause-memory c =
    if_wanting c.resume.result (resumed_makes c.args.classes.now c.push.new.self) (initialised_makes c.args.classes.now (length c.args.classes.now) c.args.class c.args.world.now (resumed_makes c.args.classes.now c.args.waiting.now))
    (sym c.loop-begun.invariant.memory
    ∙ sym (making_on c.args.classes.now (length c.args.classes.now - c.loop-begun.begun) (length c.args.classes.now - (c.loop-begun.begun + 1)) c.loop-begun.here c.loop-begun.world c.set_state.new.world c.loop-begun.waiting c.push.new.self first.Nothing (omega (arith, c.loop-begun-test.true, ap (λ (l : List ClassModel). length l) c.models-steps.ensures)) (omega arith) c.set_state.ensures c.in-Ok.ensures.ok (sym c.first_state.ensures ∙ c.in-Nothing.is)))
    c.resume.ensures.memory

pub loop-begun-preserved : goal.loop-begun-preserved
loop-begun-preserved c = record {
  state =
      begun_on c.args.classes.now (length c.args.classes.now - c.loop-begun.begun) (length c.args.classes.now - (c.loop-begun.begun + 1)) c.loop-begun.here c.loop-begun.world c.set_state.new.world c.loop-begun.waiting c.push.new.self (first.Untouched c.in-Untouched.before) (omega (arith, c.loop-begun-test.true, ap (λ (l : List ClassModel). length l) c.models-steps.ensures)) (omega arith) c.set_state.ensures c.in-Ok.ensures.ok (sym c.first_state.ensures ∙ c.in-Untouched.is)
      ∙ c.loop-begun.invariant.state;
  memory =
      making_on c.args.classes.now (length c.args.classes.now - c.loop-begun.begun) (length c.args.classes.now - (c.loop-begun.begun + 1)) c.loop-begun.here c.loop-begun.world c.set_state.new.world c.loop-begun.waiting c.push.new.self (first.Untouched c.in-Untouched.before) (omega (arith, c.loop-begun-test.true, ap (λ (l : List ClassModel). length l) c.models-steps.ensures)) (omega arith) c.set_state.ensures c.in-Ok.ensures.ok (sym c.first_state.ensures ∙ c.in-Untouched.is)
      ∙ c.loop-begun.invariant.memory;
}

pub returns-clause-state : goal.returns-clause-state
returns-clause-state c =
    sym c.loop-begun.invariant.state
    ∙ ap (λ (n : ℕ). initialised_on c.args.classes.now n c.loop-begun.here c.loop-begun.world c.loop-begun.waiting) (omega (arith, c.loop-begun-test.false, ap (λ (l : List ClassModel). length l) c.models-steps.ensures))
    ∙ not_begun c.args.classes.now c.loop-begun.here c.loop-begun.world c.loop-begun.waiting
