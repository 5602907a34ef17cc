use Rattle.std.proofs.Common.{◌+◌, ◌-◌, ◌∙◌, ℕ, false, sym, ap, arith}
use Rattle.jc_waiting.proofs.Walked.{told_ready, told_wanting, walk_on, walked, walked_alone, walked_none}
use Rattle.jc_waiting.specs.Alone.{ended_alone, refused_alone}
use Rattle.jc_waiting.specs.declared.initialising.First.TheVariants as first
use Rattle.jc_waiting.proofs.alone.initialise_alone.Goals as goal

pub returns-in-Failed-clause-ready : goal.returns-in-Failed-clause-ready
returns-in-Failed-clause-ready c =
    told_ready c.refuse.result c.args.classes.now c.args.steps c.args.class c.args.world.now _ (refused_alone c.args.classes.now) c.refuse.ensures.done
    (sym c.loop-walked.invariant
    ∙ sym (walk_on c.args.classes.now (c.args.steps - c.loop-walked.walked) (c.args.steps - (c.loop-walked.walked + 1)) c.loop-walked.here c.loop-walked.world c.set_state.new.world c.loop-walked.uppermost c.or_below-uppermost.result first.Failed (omega (arith, c.loop-walked-test.true)) (omega arith) c.set_state.ensures c.or_below-uppermost.ensures (sym c.first_state.ensures ∙ c.in-Failed.is)))

pub returns-in-Failed-clause-memory : goal.returns-in-Failed-clause-memory
returns-in-Failed-clause-memory c =
    told_wanting c.refuse.result c.args.classes.now c.args.steps c.args.class c.args.world.now c.set_state.new.world (refused_alone c.args.classes.now) c.refuse.ensures.memory
    (sym c.loop-walked.invariant
    ∙ sym (walk_on c.args.classes.now (c.args.steps - c.loop-walked.walked) (c.args.steps - (c.loop-walked.walked + 1)) c.loop-walked.here c.loop-walked.world c.set_state.new.world c.loop-walked.uppermost c.or_below-uppermost.result first.Failed (omega (arith, c.loop-walked-test.true)) (omega arith) c.set_state.ensures c.or_below-uppermost.ensures (sym c.first_state.ensures ∙ c.in-Failed.is)))

pub returns-in-Nothing-clause-ready : goal.returns-in-Nothing-clause-ready
returns-in-Nothing-clause-ready c =
    told_ready c.end.result c.args.classes.now c.args.steps c.args.class c.args.world.now _ (ended_alone c.or_below-uppermost.result) c.end.ensures.done
    (sym c.loop-walked.invariant
    ∙ sym (walk_on c.args.classes.now (c.args.steps - c.loop-walked.walked) (c.args.steps - (c.loop-walked.walked + 1)) c.loop-walked.here c.loop-walked.world c.set_state.new.world c.loop-walked.uppermost c.or_below-uppermost.result first.Nothing (omega (arith, c.loop-walked-test.true)) (omega arith) c.set_state.ensures c.or_below-uppermost.ensures (sym c.first_state.ensures ∙ c.in-Nothing.is)))

pub returns-in-Nothing-clause-memory : goal.returns-in-Nothing-clause-memory
returns-in-Nothing-clause-memory c =
    told_wanting c.end.result c.args.classes.now c.args.steps c.args.class c.args.world.now c.set_state.new.world (ended_alone c.or_below-uppermost.result) c.end.ensures.memory
    (sym c.loop-walked.invariant
    ∙ sym (walk_on c.args.classes.now (c.args.steps - c.loop-walked.walked) (c.args.steps - (c.loop-walked.walked + 1)) c.loop-walked.here c.loop-walked.world c.set_state.new.world c.loop-walked.uppermost c.or_below-uppermost.result first.Nothing (omega (arith, c.loop-walked-test.true)) (omega arith) c.set_state.ensures c.or_below-uppermost.ensures (sym c.first_state.ensures ∙ c.in-Nothing.is)))

pub loop-walked-preserved : goal.loop-walked-preserved
loop-walked-preserved c =
    walk_on c.args.classes.now (c.args.steps - c.loop-walked.walked) (c.args.steps - (c.loop-walked.walked + 1)) c.loop-walked.here c.loop-walked.world c.set_state.new.world c.loop-walked.uppermost c.or_below-uppermost.result (first.Untouched c.in-Untouched.before) (omega (arith, c.loop-walked-test.true)) (omega arith) c.set_state.ensures c.or_below-uppermost.ensures (sym c.first_state.ensures ∙ c.in-Untouched.is)
    ∙ c.loop-walked.invariant

pub returns-clause-ready : goal.returns-clause-ready
returns-clause-ready c =
    walked_alone c.args.classes.now c.args.steps c.args.class c.args.world.now c.loop-walked.world false
    (sym c.loop-walked.invariant
    ∙ ap (λ (n : ℕ). walked c.args.classes.now n c.loop-walked.here c.loop-walked.world c.loop-walked.uppermost) (omega (arith, c.loop-walked-test.false))
    ∙ walked_none c.args.classes.now c.loop-walked.here c.loop-walked.world c.loop-walked.uppermost)
