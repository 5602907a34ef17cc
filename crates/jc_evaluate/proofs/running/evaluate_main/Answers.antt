use Rattle.std.proofs.Common.{◌-◌, arith}
use Rattle.jc_meaning.specs.Meaning.{first_state, main_outcome, run_main}
use Rattle.jc_evaluate.proofs.Starts.{going_first, left_last}
use Rattle.jc_evaluate.proofs.running.evaluate_main.Goals as goal

pub returns-then-units-eq0 : goal.returns-then-units-eq0
returns-then-units-eq0 c = c.seen_from.ensures (main_outcome c.args.program.now c.args.m c.args.args.now c.args.input c.args.units)
    (going_first (run_main c.args.program.now c.args.m c.args.args.now c.args.units) c.args.units (first_state c.args.program.now c.args.m c.args.input) c.in_ok-run.run' (omega arith) c.in_ok-run.ensures.state)

pub returns : goal.returns
returns c = c.seen_from-2.ensures (main_outcome c.args.program.now c.args.m c.args.args.now c.args.input c.args.units)
    (left_last (run_main c.args.program.now c.args.m c.args.args.now c.args.units) c.args.units (first_state c.args.program.now c.args.m c.args.input) c.in_ok-run.run' c.left_value-outcome.new.run c.left_value-outcome.result (omega arith) c.in_ok-run.ensures.units c.in_ok-run.ensures.state
    (c.left_value-outcome.ensures (run_main c.args.program.now c.args.m c.args.args.now c.args.units (c.in_ok-run.run'.units - 1) c.in_ok-run.run'.state) c.run_main-outcome.ensures))
